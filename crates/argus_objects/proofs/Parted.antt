-- A place that parts the readers into older ones and others.
use Rattle.std.proofs.Common.{◌≡◌, ◌≢◌, ℕ, ◌+◌, ◌-◌, ◌<◌, ◌≤◌, true, false, not, eqb, ltb, ◌||◌, List, [], ◌∷◌, ◌++◌}
use Rattle.std.proofs.Common.{length, take, drop, get_or, refl, sym, ◌∙◌, ap, arith, inl, inr, zero, suc, subst}
use Rattle.std.proofs.{Math.{Seq.{take-length, drop-length}, ListN.drop_of_length-le}, lemmas.Bool.{ne_eqb, lt-ltb}}
use Rattle.std.proofs.lemmas.{Bool.{ltb-true, and_parts, and_from, cases_lt, Decides.nat_tests}, List.drop_more}
use Rattle.std.proofs.lemmas.List.{take-append-drop, get_or-drop, length-drop, drop-append-le, append-nil}
use Rattle.std.proofs.lemmas.List.{Elements.filter-append, Folds.{list_any-append, list_all_more}, get_or_default}
use Rattle.std.specs.List.{list_all}
use Rattle.argus_actions.specs.declared.action_id.ActionId.{ActionId}
use Rattle.argus_objects.specs.{Rules.is_ascending, CellChanges.{is_reader, with_reader, without_reader}}
use Rattle.argus_objects.{specs.Readers.{StandsAt, GoesTo}, proofs.{Chains.all_imp, InOrder.{before, there, lower_all}}}
use Rattle.argus_objects.proofs.InOrder.{lower_than}

-- those before the place are older than the action, and none behind it is
pub record IsPlace (a : ActionId) (ys : List ActionId) (at : ℕ) : Type 0 where
  pub bound : at ≤ length ys
  pub older : list_all (λ x. ltb x.0 a.0) (take at ys) ≡ true
  pub newer : (d : ActionId) → at < length ys → a.0 ≤ (get_or ys at d).0

none_older : (a : ActionId) (ys : List ActionId) → list_all (λ y. ltb y.0 a.0) ys ≡ true → is_reader a ys ≡ false
none_older a [] low = refl
none_older a (y ∷ ys) low = grind (arith, nat_tests, none_older a ys)

none_newer : (a : ActionId) (ys : List ActionId) → list_all (λ y. ltb a.0 y.0) ys ≡ true → is_reader a ys ≡ false
none_newer a [] high = refl
none_newer a (y ∷ ys) high = grind (arith, nat_tests, none_newer a ys)

-- nothing is taken out where there is no such reader
pub all_stay : (a : ActionId) (ys : List ActionId) → is_reader a ys ≡ false → without_reader a ys ≡ ys
all_stay a [] none = refl
all_stay a (y ∷ ys) none = grind (arith, nat_tests, all_stay a ys)

-- those behind a place have greater numbers
newer_behind : (ids : List ActionId) (k : ℕ) (d : ActionId) → is_ascending ids ≡ true → k < length ids
    → list_all (λ y. ltb (get_or ids k d).0 y.0) (drop (k + 1) ids) ≡ true
newer_behind [] k d up below = absurd (omega arith)
newer_behind (x ∷ xs) zero d up below = (and_parts (list_all (λ y. ltb x.0 y.0) xs) (is_ascending xs) up).0
newer_behind (x ∷ xs) (suc k) d up below =
    let more : suc (k + 1) ≡ suc k + 1 = omega arith in
    subst (λ (n : ℕ). list_all (λ (y : ActionId). ltb (get_or xs k d).0 y.0) (drop n (x ∷ xs)) ≡ true) more
    (newer_behind xs k d (and_parts (list_all (λ y. ltb x.0 y.0) xs) (is_ascending xs) up).1 (omega arith))

record Split (a : ActionId) (ys : List ActionId) (at : ℕ) : Type 0 where
  is : is_reader a ys ≡ is_reader a (drop at ys)
  added : with_reader a ys ≡ take at ys ++ with_reader a (drop at ys)
  left : without_reader a ys ≡ take at ys ++ without_reader a (drop at ys)

-- only what is behind the place matters
split : (a : ActionId) (ys : List ActionId) (at : ℕ) → IsPlace a ys at → Split a ys at
split a ys at place =
    let none = none_older a (take at ys) place.older in
    let any = list_any-append (λ (x : ActionId). eqb x.0 a.0) (take at ys) (drop at ys) in
    let put = lower_all a (take at ys) (drop at ys) place.older in
    let left = filter-append (λ (x : ActionId). not (eqb x.0 a.0)) (take at ys) (drop at ys) in
    let stay = all_stay a (take at ys) in
    grind (arith, nat_tests, take-append-drop, none, any, put, left, stay)

pub found : (a : ActionId) (ys : List ActionId) (at : ℕ) (d : ActionId) → is_ascending ys ≡ true → IsPlace a ys at
    → at < length ys → (get_or ys at d).0 ≡ a.0 → StandsAt a ys at
found a ys at d up place below e =
    let parts = split a ys at place in
    let here = drop_more ys at d below in
    let behind : list_all (λ y. ltb a.0 y.0) (drop (at + 1) ys) ≡ true = rw e at (newer_behind ys at d up below) in
    let none = none_newer a (drop (at + 1) ys) behind in
    let stay = all_stay a (drop (at + 1) ys) none in
    record {
      bound = below;
      here = λ other. ap (λ (x : ActionId). x.0) (get_or_default ys at other d below) ∙ e;
      is = grind (arith, nat_tests, parts, here);
      same = grind (arith, nat_tests, parts, here, there, take-append-drop);
      left = grind (arith, nat_tests, parts, here, stay);
    }

pub missing : (a : ActionId) (ys : List ActionId) (at : ℕ) (d : ActionId) → is_ascending ys ≡ true → IsPlace a ys at
    → (at < length ys → (get_or ys at d).0 ≢ a.0) → GoesTo a ys at
missing a ys at d up place other =
    let parts : Split a ys at = split a ys at place in
    let none : is_reader a (drop at ys) ≡ false = elim (cases_lt at (length ys)) [
      | inl below ↦
          let lt : a.0 < (get_or ys at d).0 = let le = place.newer d below in omega (arith, le, other below) in
          ap (is_reader a) (drop_more ys at d below)
          ∙ (ap (λ b. b || is_reader a (drop (at + 1) ys)) (ne_eqb (get_or ys at d).0 a.0 (other below))
          ∙ none_newer a (drop (at + 1) ys) (all_imp (λ y. ltb (get_or ys at d).0 y.0) (λ y. ltb a.0 y.0)
          (λ y h. let l : (get_or ys at d).0 < y.0 = ltb-true (get_or ys at d).0 y.0 h in lt-ltb a.0 y.0 (omega arith))
          (drop (at + 1) ys) (newer_behind ys at d up below)))
      | inr le ↦ ap (is_reader a) (drop_of_length-le ys le)
    ] in
    let put : with_reader a (drop at ys) ≡ a ∷ drop at ys = elim (cases_lt at (length ys)) [
      | inl below ↦
          let lt : a.0 < (get_or ys at d).0 = let le = place.newer d below in omega (arith, le, other below) in
          ap (with_reader a) (drop_more ys at d below) ∙ (before a (get_or ys at d) (drop (at + 1) ys) lt
          ∙ ap (λ zs. a ∷ zs) (sym (drop_more ys at d below)))
      | inr le ↦ ap (with_reader a) (drop_of_length-le ys le) ∙ ap (λ zs. a ∷ zs) (sym (drop_of_length-le ys le))
    ] in
    record {
      bound = place.bound;
      is = parts.is ∙ none;
      put = parts.added ∙ ap (λ zs. take at ys ++ zs) put;
      same = parts.left ∙ (ap (λ zs. take at ys ++ zs) (all_stay a (drop at ys) none) ∙ take-append-drop at ys);
    }

-- the newest reader stands in its place
pub newest_place : (a : ActionId) (ys : List ActionId) (d : ActionId) → is_ascending ys ≡ true → 0 < length ys
    → (get_or ys (length ys - 1) d).0 ≡ a.0 → IsPlace a ys (length ys - 1)
newest_place a ys d up some e = grind (arith, nat_tests, lower_than, get_or_default)

-- one reader more that is older than the action
pub one_more_older : (a : ActionId) (ys : List ActionId) (k : ℕ) (d : ActionId) → is_ascending ys ≡ true
    → k < length ys → (get_or ys k d).0 < a.0 → list_all (λ x. ltb x.0 a.0) (take (k + 1) ys) ≡ true
one_more_older a ys k d up below lt =
    list_all_more (λ (x : ActionId). ltb x.0 a.0) ys k d below
    ∙ and_from _ _ (lower_than a ys k d up below (omega arith)) (lt-ltb (get_or ys k d).0 a.0 lt)

-- past the newest the place is at the end
pub last_place : (a : ActionId) (ys : List ActionId) (d : ActionId) → is_ascending ys ≡ true
    → (0 < length ys → (get_or ys (length ys - 1) d).0 < a.0) → IsPlace a ys (length ys)
last_place a ys d up newest = grind (arith, nat_tests, one_more_older)

-- the last of all is the newest of those behind the front
pub newest_is : (xs : List ActionId) (front : ℕ) (d : ActionId) → front ≤ length xs - 1 → 0 < length xs
    → get_or (drop front xs) (length (drop front xs) - 1) d ≡ get_or xs (length xs - 1) d
newest_is xs front d le some = grind (arith, nat_tests, length-drop, get_or-drop)

-- what was read in the last place
pub seen : (xs : List ActionId) (n : ℕ) (d got : ActionId) → n ≡ length xs → 0 < length xs
    → got ≡ get_or xs (n - 1) got → (get_or xs (length xs - 1) d).0 ≡ got.0
seen xs n d got e some is = grind (arith, nat_tests, get_or_default)

-- an older action than the newest reader doesn't stand last
pub not_newest : (a : ActionId) (ys : List ActionId) (at : ℕ) (d : ActionId) → StandsAt a ys at
    → a.0 < (get_or ys (length ys - 1) d).0 → at + 1 < length ys
not_newest a ys at d stands older = grind (arith, nat_tests)

-- the action is past the newest of those behind the front
pub past_newest : (a : ActionId) (xs : List ActionId) (front : ℕ) (d : ActionId) → front ≤ length xs - 1
    → is_ascending (drop front xs) ≡ true → (0 < length xs → (get_or xs (length xs - 1) d).0 < a.0)
    → GoesTo a (drop front xs) (length (drop front xs))
past_newest a xs front d le up lt =
    let ys : List ActionId = drop front xs in
    missing a ys (length ys) d up (last_place a ys d up (λ some.
    let more : 0 < length xs = omega (arith, some, length-drop front xs) in
    let less : (get_or xs (length xs - 1) d).0 < a.0 = lt more in
    omega (arith, less, ap (λ (x : ActionId). x.0) (newest_is xs front d le more))))
    (λ below. absurd (omega (arith, below)))

-- it is the newest of them
pub at_newest : (a : ActionId) (xs : List ActionId) (front : ℕ) (d : ActionId) → front ≤ length xs - 1
    → 0 < length xs → is_ascending (drop front xs) ≡ true → (get_or xs (length xs - 1) d).0 ≡ a.0
    → StandsAt a (drop front xs) (length (drop front xs) - 1)
at_newest a xs front d le some up e =
    grind (arith, nat_tests, length-drop front xs, newest_is xs front d le some, found a, newest_place a)

-- it is pushed behind them
pub pushed : (a : ActionId) (xs : List ActionId) (front : ℕ) (d : ActionId) → front ≤ length xs - 1
    → is_ascending (drop front xs) ≡ true → (0 < length xs → (get_or xs (length xs - 1) d).0 < a.0)
    → drop front (xs ++ a ∷ []) ≡ with_reader a (drop front xs)
pushed a xs front d le up lt =
    let ys : List ActionId = drop front xs in
    drop-append-le front xs (a ∷ []) (omega arith)
    ∙ (ap (λ zs. zs ++ a ∷ []) (sym (take-length ys))
    ∙ (ap (λ zs. take (length ys) ys ++ a ∷ zs) (sym (drop-length ys))
    ∙ sym (past_newest a xs front d le up lt).put))

-- the newest is taken out
pub popped : (a : ActionId) (xs : List ActionId) (front : ℕ) (d : ActionId) → front ≤ length xs - 1
    → 0 < length xs → is_ascending (drop front xs) ≡ true → (get_or xs (length xs - 1) d).0 ≡ a.0
    → take (length (drop front xs) - 1) (drop front xs) ≡ without_reader a (drop front xs)
popped a xs front d le some up e =
    grind (arith, nat_tests, length-drop front xs, at_newest a xs front d le some up e, drop-length, append-nil)
