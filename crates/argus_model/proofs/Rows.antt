-- The rows have the origin and the status of each action.
use Rattle.std.proofs.{lemmas.Bool.Decides.nat_tests, Math.Bool.or_comm, lemmas.Bool.{cases_Bool, cases_eq}}
use Rattle.std.proofs.{lemmas.List.Folds.list_any-append, Common.{arith, cond, false, length, refl, suc}}
use Rattle.std.proofs.Common.{true, zero, ℕ, ◌++◌, ◌+◌, ◌<◌, ◌∷◌, ◌≡◌, ◌≢◌, Bool, List, None, Option, Some, [], ap}
use Rattle.std.specs.{List.list_any, Prelude.{◌&&◌, ◌==◌, ◌||◌}}
use Rattle.argus_model.specs.Ancestors.{begun_by, is_ancestor, parent}
use Rattle.argus_model.specs.Rows.{with_status, Row, has_live_row, is_above, is_live_status, mark, origin, row_at}
use Rattle.argus_model.specs.{Rows.{row_of, rows}, History.{History, Opened, begun_actions, folded, next_action, ◌▹◌}}
use Rattle.argus_model.specs.Event.{Aborted, Accessed, Began, Committed, origin_begun_by, origin_parent}
use Rattle.argus_model.specs.{OwnerSteps.stands, Status.{is_live, status, IsAborted, IsCommitted}}
use Rattle.argus_model.specs.Status.{IsFolded, IsLive, Status, has_committed, has_live_child, is_begun, is_doomed}
use Rattle.argus_model.proofs.{Ancestors.{ancestor_le, folded_next, lineage_cases, parent_older}, Owner.parent_unfolded}
use Rattle.argus_model.proofs.Numbers.{any_agree}
use Rattle.argus_model.proofs.{Live.{is_begun_from, is_begun_parts}, OwnerRules.stands_plain, Serial.lineage-base}
use Rattle.argus_model.proofs.Standing.{Orderly, parents_are_older, stands_begun, stands_new, stands_unfolded}

-- status, after one more step
abbrev over : Bool → Bool → Status
over d c = cond d IsAborted (cond c IsCommitted IsLive)

status_known : {V : Type 0} (h : History V) (a : ℕ) → is_begun h a ≡ true
    → status h a ≡ over (is_doomed h a) (has_committed h a)
status_known h a k = ap (λ b. cond b (over (is_doomed h a) (has_committed h a)) IsFolded) k

stands_status : {V : Type 0} (h : History V) → Orderly h → (a : ℕ) → a ≢ 0 → stands h a ≡ true → status h a ≡ IsLive
stands_status h w a n l = grind (arith, nat_tests, stands_plain, status_known, is_begun_from, stands_unfolded)

-- marking leaves the number of rows
pub length-mark : (n : ℕ) (which : ℕ → Bool) (s : Status) (rs : List Row) → length (mark n which s rs) ≡ length rs
length-mark n which s [] = refl
length-mark n which s (r ∷ rs) = ap suc (length-mark n which s rs)

-- there is a row for each number past the folded ones and before the next
pub rows_length : {V : Type 0} (h : History V) → folded h + length (rows h) + 1 ≡ next_action h
rows_length (Opened n) = omega arith
rows_length (Began from ▹ h) = let ih = rows_length h in omega arith
rows_length (_ ▹ h) = grind (arith, nat_tests, length-mark, rows_length h)

abbrev marked : Bool → Status → Option Row → Option Row
marked b s None = None
marked b s (Some r) = Some (cond b (with_status s r) r)

row_at-mark : (n : ℕ) (which : ℕ → Bool) (s : Status) (rs : List Row) (a : ℕ)
    → row_at n (mark n which s rs) a ≡ marked (which a) s (row_at n rs a)
row_at-mark n which s [] a = refl
row_at-mark n which s (r ∷ rs) a = grind (arith, nat_tests, length-mark, marked, row_at-mark n which s rs a, cases_eq a)

is_above-mark : (n : ℕ) (which : ℕ → Bool) (s : Status) (rs : List Row) (x y : ℕ)
    → is_above n (mark n which s rs) x y ≡ is_above n rs x y
is_above-mark n which s [] x y = refl
is_above-mark n which s (r ∷ rs) x y =
    grind (
      arith,
      nat_tests,
      length-mark,
      is_above-mark n which s rs x (origin_parent r.origin),
      is_above-mark n which s rs x y,
    )

-- above 0 there is no row
is_above_low : {V : Type 0} (h : History V) (x y : ℕ) → (folded h < y → ⊥) → is_above (folded h) (rows h) x y ≡ false
is_above_low (Opened n) x y u = refl
is_above_low (Began from ▹ h) x y u = grind (arith, nat_tests, rows_length h, is_above_low h x y u)
is_above_low (_ ▹ h) x y u = grind (arith, nat_tests, is_above-mark, is_above_low h x y u)

-- the rows and the history give a begun action the same ancestors, but for the base
pub is_above_is : {V : Type 0} (h : History V) → Orderly h → (x y : ℕ) → x ≢ 0 → is_begun h y ≡ true
    → is_above (folded h) (rows h) x y ≡ is_ancestor h x y
is_above_is {V} (Opened n) w x y x0 k = grind (arith, nat_tests, is_begun_parts)
is_above_is (Began from ▹ h) w x y x0 k =
    grind (
      arith,
      nat_tests,
      is_begun_parts,
      rows_length h,
      is_above_low,
      lineage-base h,
      is_above_is h w.1 x (origin_parent from) x0,
      is_begun_from,
      stands_unfolded,
      stands_begun,
      is_above_is h w.1 x y x0,
      lineage_cases,
    )
is_above_is (_ ▹ h) w x y x0 k = grind (arith, nat_tests, is_above-mark, is_above_is h w.1 x y x0 k)

-- the row of a begun action says what the history says of it
pub row_is : {V : Type 0} (h : History V) → Orderly h → (a : ℕ) → is_begun h a ≡ true
    → row_at (folded h) (rows h) a ≡ Some (row_of h a)
row_is {V} (Opened n) w a k = let q = is_begun_parts {V = V} (Opened n) a k in absurd (omega (arith, q.0, q.1))
row_is (Began from ▹ h) w a k =
    let new = stands_new h from a in let live = stands_status (Began from ▹ h) w a in let f = folded_next h in
    grind (arith, nat_tests, is_begun_parts, rows_length h, live, new, is_begun_from, row_is h w.1 a, f)
row_is (Committed s ▹ h) w a k =
    grind (arith, nat_tests, row_at-mark, marked, row_is h w.1 a k, stands_plain h w.1 a, cases_eq a s)
row_is (Aborted zs ▹ h) w a k = grind (arith, nat_tests, any_agree, is_above_is, row_at-mark, marked, row_is h w.1 a k)
row_is (Accessed d o v ▹ h) w a k = row_is h w.1 a k

-- the origin says who is the parent
pub parent_of_origin : {V : Type 0} (h : History V) (a : ℕ) → origin_parent (origin h a) ≡ parent h a
parent_of_origin (Opened n) a = refl
parent_of_origin (Began from ▹ h) a = grind (arith, nat_tests, parent_of_origin h a)
parent_of_origin (_ ▹ h) a = parent_of_origin h a

-- the origin says who is the creator
pub creator_of_origin : {V : Type 0} (h : History V) (a : ℕ) → origin_begun_by (origin h a) ≡ begun_by h a
creator_of_origin (Opened n) a = refl
creator_of_origin (Began from ▹ h) a = grind (arith, nat_tests, creator_of_origin h a)
creator_of_origin (_ ▹ h) a = creator_of_origin h a

-- a list of rows that has these rows at its numbers, from the oldest on
abbrev upto : ℕ → ℕ → List ℕ
upto n zero = []
upto n (suc k) = upto n k ++ (n + k + 1) ∷ []

begun_upto : {V : Type 0} (h : History V) → begun_actions h ≡ upto (folded h) (length (rows h))
begun_upto (Opened n) = refl
begun_upto (Began from ▹ h) = grind (arith, nat_tests, begun_upto h, rows_length)
begun_upto (_ ▹ h) = grind (arith, nat_tests, begun_upto h, length-mark)

under_listed : (n : ℕ) (rs : List Row) (f : ℕ → Row) (a : ℕ)
    → ((k : ℕ) → n < k → k < n + length rs + 1 → row_at n rs k ≡ Some (f k))
    → has_live_row rs a
    ≡ list_any (λ k. is_live_status (f k).status && (origin_parent (f k).origin == a || origin_begun_by (f k).origin
    == a))
    (upto n (length rs))
under_listed n [] f a each = refl
under_listed n (r ∷ rs) f a each = grind (arith, nat_tests, under_listed n rs f a, or_comm, upto, list_any-append)

-- an action has the status of a live one where it is live, and only there
pub live_status_is : {V : Type 0} (h : History V) (k : ℕ) → is_live_status (status h k) ≡ is_live h k
live_status_is h k = grind (arith, nat_tests)

-- who has a live child by the rows has one by the history, and the other way round
pub has_live_row_is : {V : Type 0} (h : History V) → Orderly h → (a : ℕ) → has_live_row (rows h) a ≡ has_live_child h a
has_live_row_is h w a =
    let listed = under_listed (folded h) (rows h) (row_of h) a in let n = rows_length h in let b = begun_upto h in
    let live = live_status_is h in let p = parent_of_origin h in let c = creator_of_origin h in
    grind (arith, nat_tests, listed, row_is h w, is_begun_from h, n, b, any_agree, live, p, c)

-- of a number with no row the rows say nothing
is_above_unbegun : {V : Type 0} (h : History V) (x y : ℕ) → is_begun h y ≡ false
    → is_above (folded h) (rows h) x y ≡ false
is_above_unbegun (Opened n) x y u = refl
is_above_unbegun (Began from ▹ h) x y u =
    grind (arith, nat_tests, rows_length h, folded_next h, is_begun_parts, is_begun_from, is_above_unbegun h x y)
is_above_unbegun (_ ▹ h) x y u = grind (arith, nat_tests, is_above-mark, is_above_unbegun h x y u)

-- by the rows the base is above none
pub is_above_zero : (n : ℕ) (rs : List Row) (y : ℕ) → is_above n rs 0 y ≡ false
is_above_zero n [] y = refl
is_above_zero n (r ∷ rs) y = grind (arith, nat_tests, is_above_zero n rs (origin_parent r.origin), is_above_zero n rs y)

-- an ancestor of what has begun has begun, but for the base
ancestor_unfolded : {V : Type 0} (h : History V) → Orderly h → (n x y : ℕ) → y < n → folded h < y → y < next_action h
    → x ≢ 0 → is_ancestor h x y ≡ true → folded h < x
ancestor_unfolded h w zero x y l u b x0 m = absurd (omega arith)
ancestor_unfolded h w (suc n) x y l u b x0 m =
    grind (
      arith,
      nat_tests,
      parent_older h y,
      parents_are_older h w,
      lineage-base h,
      ancestor_unfolded h w n x,
      parent_unfolded h w y u,
    )

-- an ancestor of a begun action, other than the base, is begun
pub ancestor_begun : {V : Type 0} (h : History V) → Orderly h → (x y : ℕ) → is_begun h y ≡ true → x ≢ 0
    → is_ancestor h x y ≡ true → is_begun h x ≡ true
ancestor_begun h w x y k x0 m =
    let l = ancestor_le h x y (parents_are_older h w) in let u = ancestor_unfolded h w (suc y) x y in
    grind (arith, nat_tests, is_begun_parts h y k, l, is_begun_from h x, u)

-- the rows say of two begun actions whether one is an ancestor of the other, and of others no
pub is_above_exactly : {V : Type 0} (h : History V) → Orderly h → (x y : ℕ)
    → is_above (folded h) (rows h) x y ≡ ((is_begun h x && is_begun h y) && is_ancestor h x y)
is_above_exactly h w x y =
    grind (
      arith,
      nat_tests,
      is_above_zero (folded h) (rows h) y,
      is_above_unbegun h x y,
      cases_Bool (is_begun h y),
      is_above_is h w x y,
      ancestor_begun h w x y,
      is_begun_parts h x,
    )
