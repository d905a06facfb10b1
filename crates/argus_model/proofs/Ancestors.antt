-- Lineages go down in number, and an ancestor's ancestors are ancestors.
use Rattle.std.proofs.Common.{List, [], ap, arith, cond, refl, sym, true, ℕ, ⊎_elim, ◌++◌, ◌<◌, ◌∷◌, ◌≡◌, ◌≢◌, ◌≤◌, ◌⊎◌}
use Rattle.std.proofs.{lemmas.Bool.{cases_eq, eqb-true, ne_eqb, or_cases}, lemmas.Bool.Decides.nat_tests}
use Rattle.std.specs.Prelude.{◌==◌}
use Rattle.argus_model.specs.{Ancestors.{is_ancestor, is_under, lineage, parent, to_base}, Numbers.contains}
use Rattle.argus_model.specs.{Event.{Began, Origin, origin_parent}, History.{History, Opened, folded, next_action, ◌▹◌}}
use Rattle.argus_model.proofs.Numbers.{any_found, any_from, contains_first, joined}

-- each parent was begun before
abbrev pub ParentsAreOlder : {V : Type 0} → History V → Type 0
ParentsAreOlder (Opened n) = Unit {0}
ParentsAreOlder (Began from ▹ older) = ((origin_parent from) < next_action older) × ParentsAreOlder older
ParentsAreOlder (_ ▹ older) = ParentsAreOlder older

-- the next number is positive
pub next_pos : {V : Type 0} (h : History V) → 0 < next_action h
next_pos (Opened n) = omega arith
next_pos (Began from ▹ h) = omega arith
next_pos (_ ▹ h) = next_pos h

-- the lineage of what began last is itself, then its parent's; every other lineage stays
pub lineage_cases : {V : Type 0} (h : History V) (from : Origin) (y : ℕ)
    → ((y ≡ next_action h) × (lineage (Began from ▹ h) y ≡ y ∷ lineage h (origin_parent from)))
    ⊎ ((y ≢ next_action h) × (lineage (Began from ▹ h) y ≡ lineage h y))
lineage_cases h from y = grind (arith, nat_tests)

-- each number is its own ancestor
pub ancestor_self : {V : Type 0} (h : History V) (y : ℕ) → is_ancestor h y y ≡ true
ancestor_self (Opened n) y = grind (arith, nat_tests, contains_first 0, contains_first y (0 ∷ []), cases_eq y 0)
ancestor_self (Began from ▹ h) y = grind (arith, nat_tests, ancestor_self h y, lineage_cases h from y, contains_first)
ancestor_self (_ ▹ h) y = ancestor_self h y

-- before anything has begun there is the base
opened_lineage : (y : ℕ) → y ≢ 0 → to_base y ≡ y ∷ 0 ∷ []
opened_lineage y ne = ap (λ b. cond b (0 ∷ []) (y ∷ 0 ∷ [])) (ne_eqb y 0 ne)

opened_ancestor : (x y : ℕ) → contains (to_base y) x ≡ true → (x ≡ y) ⊎ ((x ≡ 0) × (y ≢ 0))
opened_ancestor x y a = grind (arith, nat_tests, opened_lineage y, cases_eq y 0)

-- an ancestor's number is no greater
pub ancestor_le : {V : Type 0} (h : History V) (x y : ℕ) → ParentsAreOlder h → y < next_action h
    → is_ancestor h x y ≡ true → x ≤ y
ancestor_le (Opened n) x y f l a = ⊎_elim (λ e. omega arith) (λ k. omega (arith, k.0)) (opened_ancestor x y a)
ancestor_le (Began from ▹ h) x y f l a = grind (arith, nat_tests, ancestor_le h x, ancestor_le h x y f.1)
ancestor_le (_ ▹ h) x y f l a = ancestor_le h x y f l a

-- a lineage ty that ends with the lineage tx of x; all before that is greater than x
pub record Split (ty tx : List ℕ) (x : ℕ) : Type 0 where
  pub front : List ℕ
  pub is : ty ≡ front ++ tx
  pub above : (z : ℕ) → contains front z ≡ true → x < z

split_here : (y x : ℕ) (t : List ℕ) → Split t t x
split_here y x t = record { front = []; is = refl; above = λ z h. grind arith }

split_more : (y x : ℕ) (t tx : List ℕ) → x < y → Split t tx x → Split (y ∷ t) tx x
split_more y x t tx l s =
    record {
      front = y ∷ s.front;
      is = ap (λ u. y ∷ u) s.is;
      above =
          λ z h. ⊎_elim (λ e. let q = eqb-true z y e in omega arith) (λ e. s.above z e)
          (or_cases (z == y) (contains s.front z) h);
    }

-- a begin leaves the lineage of every other
pub lineage_old : {V : Type 0} (h : History V) (from : Origin) (y : ℕ) → y ≢ next_action h
    → lineage (Began from ▹ h) y ≡ lineage h y
lineage_old h from y ne = grind (arith, nat_tests)

split_same : (x y : ℕ) (ty tx : List ℕ) → (tx ≡ ty) → Split ty tx x
split_same x y ty tx e = rw e (split_here y x ty)

-- the lineage of y ends with that of each ancestor of y
pub split_lineage : {V : Type 0} (h : History V) (x y : ℕ) → ParentsAreOlder h → y < next_action h
    → is_ancestor h x y ≡ true → Split (lineage h y) (lineage h x) x
split_lineage (Opened n) x y f l a =
    grind (arith, nat_tests, split_same, opened_lineage, split_more, split_here, opened_ancestor)
split_lineage (Began from ▹ h) x y f l a =
    let p = origin_parent from in let below = ancestor_le h x p f.1 f.0 in let le = ancestor_le h x y f.1 in
    let new = split_lineage h x p f.1 f.0 in let old = split_lineage h x y f.1 in
    grind (arith, nat_tests, split_same, split_more, lineage_cases, lineage_old, below, le, new, old, cases_eq x y)
split_lineage (_ ▹ h) x y f l a = split_lineage h x y f l a

-- an ancestor's ancestor is an ancestor
pub ancestor_trans : {V : Type 0} (h : History V) (x y z : ℕ) → ParentsAreOlder h → z < next_action h
    → is_ancestor h x y ≡ true → is_ancestor h y z ≡ true → is_ancestor h x z ≡ true
ancestor_trans h x y z f l a b = let s = split_lineage h y z f l b in rw (s.is) (joined s.front (lineage h y) x a)

-- the parent of what began last is that of its origin; every other parent stays
pub parent_cases : {V : Type 0} (h : History V) (from : Origin) (y : ℕ)
    → ((y ≡ next_action h) × (parent (Began from ▹ h) y ≡ (origin_parent from)))
    ⊎ ((y ≢ next_action h) × (parent (Began from ▹ h) y ≡ parent h y))
parent_cases h from y = grind (arith, nat_tests)

-- an action's parent is older, and its lineage is itself, then its parent's
pub parent_older : {V : Type 0} (h : History V) (y : ℕ) → ParentsAreOlder h → 0 < y → y < next_action h
    → (parent h y < y) × (lineage h y ≡ y ∷ lineage h (parent h y))
parent_older (Opened n) y f y0 l = (y0, opened_lineage y (omega arith))
parent_older (Began from ▹ h) y f y0 l = grind (arith, nat_tests, parent_older h y f.1 y0)
parent_older (_ ▹ h) y f y0 l = parent_older h y f y0 l

-- a child of x on the way down to y
pub record Child {V : Type 0} (h : History V) (x y : ℕ) : Type 0 where
  pub child : ℕ
  pub real : 0 < child
  pub started : child < next_action h
  pub below : is_ancestor h child y ≡ true
  pub of : parent h child ≡ x

child_at : {V : Type 0} (h : History V) (from : Origin) (x y : ℕ) → y ≡ next_action h → (origin_parent from) ≡ x
    → Child (Began from ▹ h) x y
child_at h from x y e k = grind (arith, nat_tests, next_pos, ancestor_self, parent_cases)

child_up : {V : Type 0} (h : History V) (from : Origin) (x y z : ℕ) (k : Child h x y)
    → is_ancestor (Began from ▹ h) k.child z ≡ true → Child (Began from ▹ h) x z
child_up h from x y z k m = grind (arith, nat_tests)

-- an ancestor of the parent is one of what began last
pub ancestor_new : {V : Type 0} (h : History V) (from : Origin) (x y : ℕ) → y ≡ next_action h
    → is_ancestor h x (origin_parent from) ≡ true → is_ancestor (Began from ▹ h) x y ≡ true
ancestor_new h from x y e a = grind (arith, nat_tests)

-- a begin takes no ancestor from what was there
pub ancestor_old : {V : Type 0} (h : History V) (from : Origin) (x y : ℕ) → y ≢ next_action h → is_ancestor h x y ≡ true
    → is_ancestor (Began from ▹ h) x y ≡ true
ancestor_old h from x y e a = grind (arith, nat_tests)

-- an ancestor of what began last, other than itself, is one of its parent
pub ancestor_new_is : {V : Type 0} (h : History V) (from : Origin) (x y : ℕ) → y ≡ next_action h → x ≢ y
    → is_ancestor (Began from ▹ h) x y ≡ true → is_ancestor h x (origin_parent from) ≡ true
ancestor_new_is h from x y e ne a = grind (arith, nat_tests)

-- a begin gives no ancestor to what was there
pub ancestor_old_is : {V : Type 0} (h : History V) (from : Origin) (x y : ℕ) → y ≢ next_action h
    → is_ancestor (Began from ▹ h) x y ≡ true → is_ancestor h x y ≡ true
ancestor_old_is h from x y e a = grind (arith, nat_tests)

-- another's ancestor has a child on the way down to it
pub child_on_path : {V : Type 0} (h : History V) (x y : ℕ) → ParentsAreOlder h → y < next_action h → x ≢ y
    → is_ancestor h x y ≡ true → Child h x y
child_on_path {V} (Opened n) x y f l ne a =
    grind (arith, nat_tests, ancestor_self {V = V} (Opened n) y, opened_ancestor x y a)
child_on_path (Began from ▹ h) x y f l ne a =
    ⊎_elim
    (λ e. ⊎_elim
    (λ k. child_at h from x y e (sym k))
    (λ k. let w = child_on_path h x (origin_parent from) f.1 f.0 k (ancestor_new_is h from x y e ne a) in
    child_up h from x (origin_parent from) y w (ancestor_new h from w.child y e w.below))
    (cases_eq x (origin_parent from)))
    (λ e. let w = child_on_path h x y f.1 (omega arith) ne (ancestor_old_is h from x y e a) in
    child_up h from x y y w (ancestor_old h from w.child y e w.below))
    (cases_eq y (next_action h))
child_on_path (_ ▹ h) x y f l ne a = grind (arith, nat_tests, child_on_path h x y f l ne a)

-- what is folded is older than what comes
pub folded_next : {V : Type 0} (h : History V) → folded h < next_action h
folded_next (Opened n) = omega arith
folded_next (Began from ▹ h) = let ih = folded_next h in omega arith
folded_next (_ ▹ h) = folded_next h

-- what is below an action that is under one of these is under one of them, too
pub under_below : {V : Type 0} (h : History V) (zs : List ℕ) (x y : ℕ) → ParentsAreOlder h → y < next_action h
    → is_under h zs x ≡ true → is_ancestor h x y ≡ true → is_under h zs y ≡ true
under_below h zs x y f l u a = grind (arith, nat_tests, any_found, any_from, ancestor_trans h)
