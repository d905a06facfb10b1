-- A line has at most one fault: what each says excludes the others.
use Rattle.std.proofs.{lemmas.{Bool.false≢true, Str.utf8_valid_len-IsValidUpTo}, Common.{arith, ◌≡◌, ◌≢◌, ℕ, ◌<◌, ◌^◌}}
use Rattle.std.proofs.Common.{List, refl, sym, ap, ◌∙◌, subst, inl, inr, ◌⊎◌}
use Rattle.std.specs.Str.{IsUtf8, IsValidUpTo}
use Rattle.argus_entries.specs.{Entry.PlainEntry, Reply.{PlainReply, plain_reply}}
use Rattle.argus_entries.proofs.Lines.{one_line}
use Rattle.argus_journal.specs.JournalView.{JournalView, next_entry, reply_to}
use Rattle.argus_reading.specs.{Laws.TextsHaveOneError, Line.{IsEntryLine, IsNoLine, LacksShape, Tells}}
use Rattle.argus_reading.specs.declared.read_entry_error.ReadEntryError.{ReadEntryError}
use Rattle.argus_resume.specs.{Laws.IsSameFault, declared.line_fault.LineFault.LineFault, Lines.HasOtherNumber}
use Rattle.argus_resume.specs.Lines.{HasOtherReply, IsBehindUnsound, IsLineFault, IsLineOf, IsOfOpening}
use Rattle.argus_resume.proofs.{Clean.entry_clean, NextLines.no_entry_of_opening}
use Rattle.argus_reading.specs.declared.read_entry_error.ReadEntryError.TheVariants as error
use Rattle.argus_resume.specs.declared.line_fault.LineFault.TheVariants as fault

-- THE LINE OF AN ENTRY

entry_utf8 : (line : List ℕ) → IsEntryLine line → IsUtf8 line
entry_utf8 line e = subst IsUtf8 (sym e.is) (entry_clean e.number e.entry e.in_range e.readable).1

entry_no_opening : (line : List ℕ) → IsEntryLine line → IsOfOpening line → ⊥
entry_no_opening line e of = no_entry_of_opening e.number e.entry line e.in_range e.is of

entry_told : (line : List ℕ) (at : ℕ) → IsEntryLine line → IsNoLine line at ⊎ LacksShape line at → ⊥
entry_told line at e p = grind arith

by_line : (n : ℕ) (e : PlainEntry) (line : List ℕ) → n < 2 ^ 64 → IsLineOf n e line → IsEntryLine line
by_line n e line h of = record { number = n; entry = e; in_range = h; readable = of.readable; is = of.is }

same_line : (m n : ℕ) (d e : PlainEntry) (line : List ℕ) → m < 2 ^ 64 → n < 2 ^ 64 → IsLineOf m d line
    → IsLineOf n e line → (m ≡ n) × (d ≡ e)
same_line m n d e line h k p q =
    one_line 16 m n d e h k (p.readable.0.0, p.readable.1) (q.readable.0.0, q.readable.1) (sym p.is ∙ q.is)

-- WHERE A TEXT STOPS

abbrev place : ReadEntryError → ℕ
place (error.Fault f) = f.at
place (error.Shape f) = f.at
place error.OutOfMemory = 0

stop_of : (line : List ℕ) (at : ℕ) → IsNoLine line at ⊎ LacksShape line at
    → (e : ReadEntryError) × Tells e line × (e ≢ error.OutOfMemory) × (place e ≡ at)
stop_of line at (inl f) = (error.Fault (record { at = at }), f, (λ same. cc), refl)
stop_of line at (inr l) = (error.Shape (record { at = at }), l, (λ same. cc), refl)

same_stop : TextsHaveOneError → (line : List ℕ) (a b : ℕ) → IsNoLine line a ⊎ LacksShape line a
    → IsNoLine line b ⊎ LacksShape line b → a ≡ b
same_stop law line a b p q =
    let x = stop_of line a p in
    let y = stop_of line b q in
    sym x.3 ∙ ap place (law line x.0 y.0 x.1 y.1 x.2 y.2) ∙ y.3

same_length : (line : List ℕ) (a b : ℕ) → IsValidUpTo line a → IsValidUpTo line b → a ≡ b
same_length line a b p q = sym (utf8_valid_len-IsValidUpTo line a p) ∙ utf8_valid_len-IsValidUpTo line b q

-- THE LAW

module _ (law : TextsHaveOneError) (journal : JournalView) (line : List ℕ) (low : next_entry journal < 2 ^ 64) where
  numbered : HasOtherNumber journal line → IsEntryLine line
  numbered h = by_line h.number h.entry line h.in_range h.of

  unsound : IsBehindUnsound journal line → IsEntryLine line
  unsound h = by_line (next_entry journal) h.entry line low h.of

  unlike : (r : PlainReply) → HasOtherReply journal line r → IsEntryLine line
  unlike r h = by_line (next_entry journal) h.entry line low h.of

  not_next : (e : PlainEntry) → IsLineOf (next_entry journal) e line → HasOtherNumber journal line → ⊥
  not_next e of h = h.other (same_line h.number (next_entry journal) h.entry e line h.in_range low h.of of).0

  same_reply : (r s : PlainReply) → HasOtherReply journal line r → HasOtherReply journal line s → s ≡ r
  same_reply r s p q =
      let same = (same_line (next_entry journal) (next_entry journal) q.entry p.entry line low low q.of p.of).1 in
      q.gives ∙ ap (λ (e : PlainEntry). reply_to journal e.call) same ∙ sym p.gives

  among : (one other : LineFault) → IsLineFault one journal line → IsLineFault other journal line
      → IsSameFault one other
  among (fault.NoText a) (fault.NoText b) p q = ap fault.NoText (same_length line b a q.1 p.1)
  among (fault.NoText a) fault.NotAnOpening p q = absurd (p.0 q.0)
  among (fault.NoText a) (fault.NoLine b) p q = absurd (p.0 q.0)
  among (fault.NoText a) fault.NotNext p q = absurd (p.0 (entry_utf8 line (numbered q)))
  among (fault.NoText a) fault.NotSound p q = absurd (p.0 (entry_utf8 line (unsound q)))
  among (fault.NoText a) (fault.NotTheReply r) p q = absurd (p.0 (entry_utf8 line (unlike (plain_reply r) q)))
  among fault.NotAnOpening (fault.NoText b) p q = absurd (q.0 p.0)
  among fault.NotAnOpening fault.NotAnOpening p q = refl
  among fault.NotAnOpening (fault.NoLine b) p q = absurd (q.1 p.1)
  among fault.NotAnOpening fault.NotNext p q = absurd (entry_no_opening line (numbered q) p.1)
  among fault.NotAnOpening fault.NotSound p q = absurd (entry_no_opening line (unsound q) p.1)
  among fault.NotAnOpening (fault.NotTheReply r) p q = absurd (entry_no_opening line (unlike (plain_reply r) q) p.1)
  among (fault.NoLine a) (fault.NoText b) p q = absurd (q.0 p.0)
  among (fault.NoLine a) fault.NotAnOpening p q = absurd (p.1 q.1)
  among (fault.NoLine a) (fault.NoLine b) p q = ap fault.NoLine (same_stop law line b a q.2 p.2)
  among (fault.NoLine a) fault.NotNext p q = absurd (entry_told line a (numbered q) p.2)
  among (fault.NoLine a) fault.NotSound p q = absurd (entry_told line a (unsound q) p.2)
  among (fault.NoLine a) (fault.NotTheReply r) p q = absurd (entry_told line a (unlike (plain_reply r) q) p.2)
  among fault.NotNext (fault.NoText b) p q = absurd (q.0 (entry_utf8 line (numbered p)))
  among fault.NotNext fault.NotAnOpening p q = absurd (entry_no_opening line (numbered p) q.1)
  among fault.NotNext (fault.NoLine b) p q = absurd (entry_told line b (numbered p) q.2)
  among fault.NotNext fault.NotNext p q = refl
  among fault.NotNext fault.NotSound p q = absurd (not_next q.entry q.of p)
  among fault.NotNext (fault.NotTheReply r) p q = absurd (not_next q.entry q.of p)
  among fault.NotSound (fault.NoText b) p q = absurd (q.0 (entry_utf8 line (unsound p)))
  among fault.NotSound fault.NotAnOpening p q = absurd (entry_no_opening line (unsound p) q.1)
  among fault.NotSound (fault.NoLine b) p q = absurd (entry_told line b (unsound p) q.2)
  among fault.NotSound fault.NotNext p q = absurd (not_next p.entry p.of q)
  among fault.NotSound fault.NotSound p q = refl
  among fault.NotSound (fault.NotTheReply r) p q = absurd (false≢true (sym p.unsound ∙ q.sound))
  among (fault.NotTheReply r) (fault.NoText b) p q = absurd (q.0 (entry_utf8 line (unlike (plain_reply r) p)))
  among (fault.NotTheReply r) fault.NotAnOpening p q = absurd (entry_no_opening line (unlike (plain_reply r) p) q.1)
  among (fault.NotTheReply r) (fault.NoLine b) p q = absurd (entry_told line b (unlike (plain_reply r) p) q.2)
  among (fault.NotTheReply r) fault.NotNext p q = absurd (not_next p.entry p.of q)
  among (fault.NotTheReply r) fault.NotSound p q = absurd (false≢true (sym q.unsound ∙ p.sound))
  among (fault.NotTheReply r) (fault.NotTheReply s) p q = (s, refl, same_reply (plain_reply r) (plain_reply s) p q)

pub one_fault : TextsHaveOneError → (journal : JournalView) (line : List ℕ) (one other : LineFault)
    → next_entry journal < 2 ^ 64 → IsLineFault one journal line → IsLineFault other journal line
    → IsSameFault one other
one_fault law journal line one other low p q = among law journal line low one other p q
