-- Objects by name, as the map of their numbers finds them.
use denote.Ref.{Bor}
use Rattle.std.proofs.Common.{◌≡◌, ℕ, ◌+◌, ◌<◌, Bool, true, false, cond, List, [], ◌∷◌, ◌++◌, length, Option, Some}
use Rattle.std.proofs.{Common.{None, refl, sym, ◌∙◌, ap, arith, length-append}, lemmas.Cmp.nat_list_eq_equiv}
use Rattle.std.proofs.{lemmas.Map.Text.btree_map_updates_str, lemmas.Slice.Eq.bytes_eq-Decides}
use Rattle.std.specs.{BTreeMap.{BTreeMap, UpdatesBy}, Cmp.Lexicographic.slice_cmp, List.position_from, Ordering.nat_cmp}
use Rattle.std.specs.Str.{bytes_eq}
use Rattle.argus_contents.specs.Shape.{PlainShape}
use Rattle.argus_language.specs.{Command.first_of, Objects.IsIndexed}

pub position-append : {X : Type 0} (t : X → Bool) (i : ℕ) (xs ys : List X)
    → position_from t i (xs ++ ys) ≡ first_of (position_from t i xs) (position_from t (i + length xs) ys)
position-append t i [] ys = ap (λ n. position_from t n ys) (omega arith)
position-append t i (x ∷ xs) ys =
    let e : (i + 1) + length xs ≡ i + length (x ∷ xs) = omega arith in
    elim (t x) as (λ b. cond b (Some i) (position_from t (i + 1) (xs ++ ys))
    ≡ first_of (cond b (Some i) (position_from t (i + 1) xs)) (position_from t (i + length (x ∷ xs)) ys)) [
      | true ↦ refl
      | false ↦ position-append t (i + 1) xs ys
          ∙ ap (λ n. first_of (position_from t (i + 1) xs) (position_from t n ys)) e
    ]

-- what was found is found behind more, too
pub position-kept : {X : Type 0} (t : X → Bool) (xs ys : List X) (i : ℕ) → position_from t 0 xs ≡ Some i
    → position_from t 0 (xs ++ ys) ≡ Some i
position-kept t xs ys i e = position-append t 0 xs ys ∙ ap (λ o. first_of o (position_from t (0 + length xs) ys)) e

pub position-last : {X : Type 0} (t : X → Bool) (xs : List X) (y : X) → position_from t 0 xs ≡ None
    → position_from t 0 (xs ++ y ∷ []) ≡ cond (t y) (Some (length xs)) None
position-last t xs y e =
    position-append t 0 xs (y ∷ []) ∙ ap (λ o. first_of o (position_from t (0 + length xs) (y ∷ []))) e
    ∙ ap (λ n. cond (t y) (Some n) None) (omega arith)

first_of-none : {A : Type 0} (o : Option A) → first_of o None ≡ o
first_of-none (Some x) = refl
first_of-none None = refl

module _ (names : List (List ℕ)) (name other : List ℕ) (none : position_from (λ n. bytes_eq name n) 0 names ≡ None)
  where
    found-last : (b : Bool) → bytes_eq name other ≡ b
        → cond b (Some (length names)) (position_from (λ n. bytes_eq other n) 0 names)
        ≡ position_from (λ n. bytes_eq other n) 0 (names ++ name ∷ [])
    found-last true equal =
        let same = (bytes_eq-Decides name other).0 equal in
        sym (position-last (λ n. bytes_eq other n) names name
        (ap (λ q. position_from (λ n. bytes_eq q n) 0 names) (sym same) ∙ none)
        ∙ ap (λ b. cond b (Some (length names)) None) (nat_list_eq_equiv.symm other name ∙ equal))
    found-last false apart = sym (position-append (λ n. bytes_eq other n) 0 names (name ∷ [])
        ∙ ap (λ b. first_of (position_from (λ n. bytes_eq other n) 0 names) (cond b (Some (0 + length names)) None))
        (nat_list_eq_equiv.symm other name ∙ apart) ∙ first_of-none (position_from (λ n. bytes_eq other n) 0 names))

-- one more name, with its number and its shape
pub indexed-more : (names more-names : List (List ℕ)) (shapes more-shapes : List PlainShape)
    (old new : BTreeMap (Bor (List ℕ)) ℕ) (name : List ℕ) (shape : PlainShape)
    → IsIndexed names shapes old → position_from (λ n. bytes_eq name n) 0 names ≡ None
    → UpdatesBy (λ x y. slice_cmp nat_cmp x.now y.now) (λ k. slice_cmp nat_cmp name k.now) old new (Some (length names))
    → more-names ≡ names ++ name ∷ [] → more-shapes ≡ shapes ++ shape ∷ [] → IsIndexed more-names more-shapes new
indexed-more names more-names shapes more-shapes old new name shape h none updates e f = record {
  found = λ other. btree_map_updates_str name old new (Some (length names)) updates other
      ∙ ap (λ o. cond (bytes_eq name other) (Some (length names)) o) (h.found other)
      ∙ found-last names name other none (bytes_eq name other) refl
      ∙ ap (position_from (λ n. bytes_eq other n) 0) (sym e);
  shaped = omega (
    arith,
    h.shaped,
    ap length e,
    ap length f,
    length-append shapes (shape ∷ []),
    length-append names (name ∷ []),
  );
}
