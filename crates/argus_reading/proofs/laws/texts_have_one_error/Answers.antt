-- The positions of two faults are the same, and a text that lacks a shape has no other fault.
use Rattle.std.proofs.Common.{◌≡◌, ◌≢◌, ℕ, inl, inr, List, ◌++◌, arith, length, refl, sym, ap, ◌∙◌, append_assoc}
use Rattle.std.proofs.{lemmas.Bool.cases_order, lemmas.List.{length-take, take-append-drop}}
use Rattle.std.specs.{Fmt.decimal, Prelude.{codes, drop}}
use Rattle.argus_texts.specs.Fault.{IsFault}
use Rattle.argus_texts.proofs.Digits.{one_decimal}
use Rattle.argus_reading.specs.{Line.{LacksShape, Tells}, declared.read_entry_error.ReadEntryError.ReadEntryError}
use Rattle.argus_reading.specs.declared.read_entry_error.ReadEntryError.TheVariants as error
use Rattle.argus_reading.proofs.laws.texts_have_one_error.Goals as goal

one_fault : (A : List ℕ → Type 0) (text : List ℕ) (a b : ℕ) → IsFault A text a → IsFault A text b → a ≡ b
one_fault A text a b p q =
    elim (cases_order a b) as (λ _. a ≡ b) [
      | inl same ↦ same
      | inr (inl less) ↦ absurd (p.longest b less q.within q.begins)
      | inr (inr more) ↦ absurd (q.longest a more p.within p.begins)
    ]

-- the text, and where its shape is lacking
lacks_behind : (text : List ℕ) (at : ℕ) → (l : LacksShape text at)
    → text ≡ decimal l.number ++ (codes " declare " ++ drop at text)
lacks_behind text at l = sym (take-append-drop at text) ∙ ap (λ x. x ++ drop at text) l.front
    ∙ append_assoc (decimal l.number) (codes " declare ") (drop at text)

lacks_length : (text : List ℕ) (at : ℕ) → (l : LacksShape text at) → at ≡ length (decimal l.number ++ codes " declare ")
lacks_length text at l = let t = length-take at text in let h = ap length l.front in omega (arith, t, h, l.within)

one_lack : (text : List ℕ) (a b : ℕ) → LacksShape text a → LacksShape text b → a ≡ b
one_lack text a b p q = let same =
    one_decimal p.number q.number (codes " declare " ++ drop a text) (codes " declare " ++ drop b text) p.in_range
    q.in_range (inl (omega arith)) (inl (omega arith)) (sym (lacks_behind text a p) ∙ lacks_behind text b q) in
    lacks_length text a p ∙ ap (λ n. length (decimal n ++ codes " declare ")) same.0 ∙ sym (lacks_length text b q)

one_error : (text : List ℕ) (e f : ReadEntryError) → Tells e text → Tells f text → e ≢ error.OutOfMemory
    → f ≢ error.OutOfMemory → e ≡ f
one_error text (error.Fault a) (error.Fault b) p q m n =
    ap (λ x. error.Fault (record { at = x })) (one_fault _ text a.at b.at p.fault q.fault)
one_error text (error.Fault a) (error.Shape b) p q m n = absurd (p.shaped b.at q)
one_error text (error.Shape a) (error.Fault b) p q m n = absurd (q.shaped a.at p)
one_error text (error.Shape a) (error.Shape b) p q m n =
    ap (λ x. error.Shape (record { at = x })) (one_lack text a.at b.at p q)
one_error text error.OutOfMemory f p q m n = absurd (m refl)
one_error text (error.Fault a) error.OutOfMemory p q m n = absurd (n refl)
one_error text (error.Shape a) error.OutOfMemory p q m n = absurd (n refl)

pub returns : goal.returns
returns c = one_error
