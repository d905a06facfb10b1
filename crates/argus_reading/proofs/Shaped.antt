-- Texts that lack no shape: no declaration's word is in its place, or a shape begins behind it.
use Rattle.std.proofs.Common.{◌≡◌, ℕ, ◌≤◌, ◌-◌, inl, List, ◌∷◌, [], ◌++◌, arith, length, refl, sym, ap, ◌∙◌, subst}
use Rattle.std.proofs.{Common.append_assoc, lemmas.List.take-append-drop}
use Rattle.std.specs.{Fmt.decimal, Prelude.{codes, drop, take}}
use Rattle.argus_texts.specs.{Fault.IsFault, Language.{IsNot, Reads, Starts, Stops}}
use Rattle.argus_texts.proofs.Lists.{tail_of}
use Rattle.argus_reading.specs.Calls.{CallParts, Calls}
use Rattle.argus_reading.specs.Line.{Shaped, Declares, DeclaresAt, IsEntryLine, IsNoLine, LacksShape, Lines, Ordinals}
use Rattle.argus_reading.proofs.{CallParts.shape_part, Parts.same, Words.stops_starts}
use Rattle.argus_reading.proofs.Whole.{call_part, entry_part, line_joint}

-- a text that begins with a form
begins : {text rest : List ℕ} {t : Calls.Thing} → Reads Calls text t rest → Starts Calls text
begins {rest = rest} {t = t} r = record { thing = t; rest = rest; reads = r }

-- the word of a declaration doesn't come
pub parts_shaped : (text : List ℕ) (left : ℕ) → Stops CallParts text left → Shaped Declares text
parts_shaped text left s front back is lead none = stops_starts CallParts text left s
    (same CallParts (inl tt) text back tt tt (is ∙ ap (λ x. x ++ back) lead))

-- a call was read
pub call_shaped : {text rest : List ℕ} {t : Calls.Thing} → Reads Calls text t rest → Shaped Declares text
call_shaped {text = text} r front back is lead none =
    none (shape_part.starts back (subst (Starts Calls) (is ∙ ap (λ x. x ++ back) lead) (begins r)))

-- a number, and what comes behind it
module _ (text front back : List ℕ) (is : text ≡ front ++ back) (lead : DeclaresAt front) where
  behind_number : text ≡ decimal lead.0 ++ 32 ∷ (codes "declare " ++ back)
  behind_number = is ∙ ap (λ x. x ++ back) lead.2 ∙ append_assoc (decimal lead.0) (codes " declare ") back

  number_first : Starts Ordinals text
  number_first = same Ordinals lead.0 text (32 ∷ (codes "declare " ++ back)) (omega arith, omega (arith, lead.1))
      (line_joint.precedes lead.0 (codes "declare " ++ back)) behind_number

  -- the number that was read is this one
  after : (n : ℕ) (rest : List ℕ) → Reads Ordinals text n rest → rest ≡ 32 ∷ (codes "declare " ++ back)
  after n rest r = (line_joint.clear.one n lead.0 rest (32 ∷ (codes "declare " ++ back)) r.good
      (omega arith, omega (arith, lead.1)) r.ends (line_joint.precedes lead.0 (codes "declare " ++ back))
      (sym r.is ∙ behind_number)).1

-- no number comes
pub number_shaped : (text : List ℕ) (left : ℕ) → Stops Ordinals text left → Shaped DeclaresAt text
number_shaped text left s front back is lead none =
    stops_starts Ordinals text left s (number_first text front back is lead)

-- no blank comes behind the number
pub blank_shaped : {text rest : List ℕ} {n : ℕ} → Reads Ordinals text n rest → IsNot 32 rest → Shaped DeclaresAt text
blank_shaped {text = text} {rest = rest} {n = n} r other front back is lead none =
    let first : IsNot 32 (32 ∷ (codes "declare " ++ back)) =
    subst (IsNot 32) (after text front back is lead n rest r) other in
    first refl

-- a number and a blank, and an entry that lacks no shape
pub entry_shaped : {text next mid : List ℕ} {n : ℕ} → Reads Ordinals text n next → next ≡ 32 ∷ mid
    → Shaped Declares mid → Shaped DeclaresAt text
entry_shaped {text = text} {next = next} {mid = mid} {n = n} r blank shaped front back is lead none =
    shaped (codes "declare ") back (tail_of (sym blank ∙ after text front back is lead n next r)) refl none

-- a line was read
pub line_shaped : {text rest : List ℕ} {t : Lines.Thing} → Reads Lines text t rest → Shaped DeclaresAt text
line_shaped {text = text} {rest = rest} {t = t} r front back is lead none =
    let whole : text ≡ (decimal lead.0 ++ 32 ∷ []) ++ (codes "declare " ++ back) =
    behind_number text front back is lead ∙ sym (append_assoc (decimal lead.0) (32 ∷ []) (codes "declare " ++ back)) in
    let start : Starts Lines text = record { thing = t; rest = rest; reads = r } in
    none (shape_part.starts back (call_part.starts (codes "declare " ++ back)
    ((entry_part lead.0 (omega arith, omega (arith, lead.1))).starts (codes "declare " ++ back)
    (subst (Starts Lines) whole start))))

lacks_none : (text : List ℕ) → Shaped DeclaresAt text → (before : ℕ) → LacksShape text before → ⊥
lacks_none text shaped before l = shaped (take before text) (drop before text) (sym (take-append-drop before text))
    (l.number, l.in_range, l.front) l.shape

-- the fault of a text that lacks no shape
pub no_line : {text : List ℕ} {left : ℕ} → (left ≤ length text) × IsFault IsEntryLine text (length text - left)
    → Shaped DeclaresAt text → (left ≤ length text) × IsNoLine text (length text - left)
no_line {text = text} f shaped = (f.0, record { fault = f.1; shaped = lacks_none text shaped })
