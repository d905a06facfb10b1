-- Texts that are whole forms of a language: without one of its parts a text isn't a pair.
use Rattle.std.proofs.Common.{◌≡◌, ℕ, ◌<◌, List, [], ◌∷◌, length, refl, sym, ap, ◌∙◌, subst, append-nil, arith}
use Rattle.argus_texts.specs.{Language.{FormOf, IsNot, Language, Reads, Starts}, Languages.Pairs}
use Rattle.argus_texts.proofs.{Lists.tail_of, Stops.{Clear, Precedes}}
use Rattle.argus_reading.specs.OpeningLanguages.{IsForm}

-- a text that is a form begins with a form
pub form_starts : (L : Language) → Clear L → (text : List ℕ) → FormOf L text → Starts L text
form_starts L k text f = grind (arith, append-nil)

-- nothing is left: the whole text was read
pub read_whole : (L : Language) (b : L.Thing) (text rest : List ℕ) → Reads L text b rest → length rest ≡ 0
    → IsForm L b text
read_whole L b text [] r h = record { good = r.good; is = r.is ∙ append-nil (L.form b) }
read_whole L b text (c ∷ rest) r h = absurd (omega arith)

-- something is left after what was read: the text isn't a form
pub left_no : (L : Language) → Clear L → (b : L.Thing) (text rest : List ℕ) → Reads L text b rest → 0 < length rest
    → FormOf L text → ⊥
left_no L k b text rest r h f = let same = k.one b f.thing rest [] r.good f.good r.ends (k.nil f.thing)
    (sym r.is ∙ f.is ∙ sym (append-nil (L.form f.thing))) in
    let none : length rest ≡ 0 = ap length same.1 in
    omega arith

module _ (L M : Language) (c : ℕ) (p : Precedes L c) where
  -- a pair begins with its first part
  pub pair_starts : (text : List ℕ) → FormOf (Pairs L c M) text → Starts L text
  pair_starts text f = grind arith

  behind_first : Clear L → (text : List ℕ) (a : L.Thing) (rest : List ℕ) → Reads L text a rest
      → (f : FormOf (Pairs L c M) text) → rest ≡ c ∷ M.form f.thing.1
  behind_first k text a rest r f =
      (k.one a f.thing.0 rest (c ∷ M.form f.thing.1) r.good f.good.0 r.ends (p f.thing.0 (M.form f.thing.1))
      (sym r.is ∙ f.is)).1

  -- the byte between the parts is missing
  pub between_no : Clear L → (text : List ℕ) (a : L.Thing) (rest : List ℕ) → Reads L text a rest → IsNot c rest
      → FormOf (Pairs L c M) text → ⊥
  between_no k text a rest r n f =
      let other = subst (IsNot c) (behind_first k text a rest r f) n in
      other refl

  -- the second part is missing
  pub second_no : Clear L → (text : List ℕ) (a : L.Thing) (next mid : List ℕ) → Reads L text a next → next ≡ c ∷ mid
      → (FormOf M mid → ⊥) → FormOf (Pairs L c M) text → ⊥
  second_no k text a next mid r e n f = n (record {
    thing = f.thing.1;
    good = f.good.1;
    is = tail_of (sym e ∙ behind_first k text a next r f);
  })

  -- both parts are there
  pub pair_whole : (text : List ℕ) (a : L.Thing) (b : M.Thing) (next mid : List ℕ) → Reads L text a next
      → next ≡ c ∷ mid → IsForm M b mid → IsForm (Pairs L c M) (a, b) text
  pair_whole text a b next mid r e f = grind arith
