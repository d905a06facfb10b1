-- From a stop of a line to what an error says of the whole text.
use Rattle.std.proofs.Common.{ap, ◌≡◌, ℕ, ◌<◌, ◌≤◌, ◌-◌, inl, List, [], ◌∷◌, ◌++◌, length, arith, sym, ◌∙◌, subst}
use Rattle.std.proofs.{Common.{append_assoc, append-nil, length-append}, Math.Seq.{drop-append_seam, take-append_seam}}
use Rattle.std.specs.{Fmt.decimal, Prelude.codes}
use Rattle.argus_contents.specs.Answer as answer
use Rattle.argus_texts.specs.{Fault.IsFault, Language.{Reads, Starts, Stops}, ShapeLanguages.{BeginsNo, Shapes}}
use Rattle.argus_texts.proofs.{Digits.numbers_clear, Faults.{Accepts, left_behind, stopped}}
use Rattle.argus_texts.proofs.Stops.{Behind, Clear, pair_first, pair_second}
use Rattle.argus_entries.specs.Call as call
use Rattle.argus_entries.specs.{Entry.PlainEntry, EntrySpelling.{call_spelling, entry_spelling, reply_spelling}}
use Rattle.argus_entries.specs.Reply as reply
use Rattle.argus_reading.specs.{Calls.Calls, Combined.Worded, Replies.Replies}
use Rattle.argus_reading.specs.Line.{Declares, DeclaresAt, Entries, IsEntryLine, Lacks, LacksShape, Lines, Ordinals}
use Rattle.argus_reading.proofs.{Calls.{call_precedes, calls_clear}, Replies.replies_clear}
use Rattle.argus_reading.proofs.Words.{Joint, joint_clear, worded_clear}

-- a call and a reply
pub entry_joint : Joint Calls 32 (Worded (codes "-> ") Replies)
entry_joint = record { clear = calls_clear; precedes = call_precedes; example = reply.answered answer.done; good = tt }

-- reading a call is reading an entry
pub call_part : Behind [] Calls Entries
call_part = pair_first Calls (Worded (codes "-> ") Replies) 32 entry_joint.precedes entry_joint.example entry_joint.good

entries_clear : Clear Entries
entries_clear = joint_clear entry_joint (worded_clear (codes "-> ") Replies replies_clear)

-- a number and an entry
pub line_joint : Joint Ordinals 32 Entries
line_joint = record {
  clear = numbers_clear 0 18446744073709551615 (omega arith);
  precedes = λ a y. inl (omega arith);
  example = (call.begin_top, reply.answered answer.done);
  good = ((tt, tt), tt);
}

-- an entry behind its number
pub entry_part : (n : ℕ) → Ordinals.Good n → Behind (decimal n ++ 32 ∷ []) Entries Lines
entry_part n g = pair_second Ordinals Entries 32 line_joint.clear line_joint.precedes n g

lines_clear : Clear Lines
lines_clear = joint_clear line_joint entries_clear

regroup : (n c r : List ℕ) → n ++ 32 ∷ (c ++ 32 ∷ 45 ∷ 62 ∷ 32 ∷ r) ≡ n ++ 32 ∷ [] ++ c ++ (32 ∷ 45 ∷ 62 ∷ 32 ∷ []) ++ r
regroup n c r = simp append_assoc

-- a line is its parts, one after another
line_form : (n : ℕ) (e : PlainEntry) → Lines.form (n, (e.call, e.reply)) ≡ entry_spelling n e
line_form n e = regroup (decimal n) (call_spelling e.call) (reply_spelling e.reply)

pub line_texts : Accepts Lines IsEntryLine
line_texts = record {
  from = λ u f. record {
    number = f.thing.0;
    entry = record { call = f.thing.1.0; reply = f.thing.1.1 };
    in_range = omega (arith, f.good.0.1);
    readable = (f.good.1.0, f.good.1.1);
    is = f.is ∙ line_form f.thing.0 (record { call = f.thing.1.0; reply = f.thing.1.1 });
  };
  to = λ u a. record {
    thing = (a.number, (a.entry.call, a.entry.reply));
    good = ((omega arith, omega (arith, a.in_range)), (a.readable.0, a.readable.1));
    is = a.is ∙ sym (line_form a.number a.entry);
  };
}

-- reading stopped
pub line_stopped : (text : List ℕ) (left : ℕ) → Stops Lines text left
    → (left ≤ length text) × IsFault IsEntryLine text (length text - left)
line_stopped text left s = stopped Lines IsEntryLine lines_clear line_texts text left s

-- a line was read, and bytes come behind it
pub line_left_behind : (d : Lines.Thing) (text rest : List ℕ) → Reads Lines text d rest → 0 < length rest
    → (length rest ≤ length text) × IsFault IsEntryLine text (length text - length rest)
line_left_behind d text rest r h = left_behind Lines IsEntryLine lines_clear line_texts d text rest r h

line_starts : (text : List ℕ) → IsEntryLine text → Starts Lines text
line_starts text a =
    let f = line_texts.to text a in
    record {
      thing = f.thing;
      rest = [];
      reads =
          record { good = f.good; ends = lines_clear.nil f.thing; is = f.is ∙ sym (append-nil (Lines.form f.thing)) };
    }

-- the word of a declaration behind a number
pub numbered : (n : ℕ) (f : List ℕ) → n ≤ 18446744073709551615 → Declares f → DeclaresAt ((decimal n ++ 32 ∷ []) ++ f)
numbered n f h e = (n, omega arith, append_assoc (decimal n) (32 ∷ []) f ∙ ap (λ (z : List ℕ). decimal n ++ 32 ∷ z) e)

lacks_at : (front back : List ℕ) → DeclaresAt front → (Starts Lines (front ++ back) → ⊥) → BeginsNo Shapes back
    → LacksShape (front ++ back) (length front)
lacks_at front back l n b = record {
  number = l.0;
  in_range = l.1;
  front = take-append_seam front back ∙ l.2;
  within = omega (arith, length-append front back);
  shape = subst (BeginsNo Shapes) (sym (drop-append_seam front back)) b;
  refused = λ a. n (line_starts (front ++ back) a);
}

front_is : (front back : List ℕ) → length front ≡ length (front ++ back) - length back
front_is front back = omega (arith, length-append front back)

-- no shape came
pub line_lacks : (text : List ℕ) (left : ℕ) → Lacks DeclaresAt Lines text left
    → (left ≤ length text) × LacksShape text (length text - left)
line_lacks text left s =
    let P : List ℕ → ℕ → Type 0 = λ x n. (n ≤ length x) × LacksShape x (length x - n) in
    let here : LacksShape (s.front ++ s.back) (length (s.front ++ s.back) - length s.back) =
    subst (LacksShape (s.front ++ s.back)) (front_is s.front s.back)
    (lacks_at s.front s.back s.lead (λ t. s.no_way (subst (Starts Lines) (sym s.whole) t)) s.shape) in
    let all : P (s.front ++ s.back) (length s.back) = (omega (arith, length-append s.front s.back), here) in
    subst (λ x. P x left) (sym s.whole) (subst (P (s.front ++ s.back)) s.count all)
