-- Rows whose statuses have changed.
use Rattle.std.proofs.Common.{◌≡◌, ℕ, suc, ◌+◌, ◌<◌, ◌≤◌, Bool, false, cond, eqb, ◌||◌, ◌&&◌, List, [], ◌∷◌, length}
use Rattle.std.proofs.{Common.{Option, Some, None, refl, ap, arith}, lemmas.Bool.Decides.nat_tests}
use Rattle.std.specs.Option.{option_and_then}
use Rattle.argus_actions.specs.{declared.{origin.Origin.Origin, status.Status.Status}, Nodes.AreLinked, Row.Row}
use Rattle.argus_actions.specs.{Row.{at_parent, is_begun_under, is_live, with_status}, Rows.{numbered, is_above}}
use Rattle.argus_actions.{specs.Rows.{depth_at, live_count, mark, newest_where}, proofs.RowsLemmas.none_some}

pub length-mark : (n : ℕ) (which : ℕ → Bool) (s : Status) (rows : List Row) → length (mark n which s rows) ≡ length rows
length-mark n which s [] = refl
length-mark n which s (row ∷ older) = ap suc (length-mark n which s older)

-- a mark changes no origin
pub origin_marked : (b : Bool) (s : Status) (row : Row) → (cond b (with_status s row) row).origin ≡ row.origin
origin_marked b s row = grind (arith, nat_tests)

pub numbered-mark : (n : ℕ) (which : ℕ → Bool) (s : Status) (rows : List Row) (a : ℕ) (row : Row)
    → numbered n rows a ≡ Some row → numbered n (mark n which s rows) a ≡ Some (cond (which a) (with_status s row) row)
numbered-mark n which s [] a row at = elim (none_some row at) [ ]
numbered-mark n which s (r ∷ older) a row at =
    grind (arith, nat_tests, length-mark, numbered-mark n which s older a row)

pub numbered-mark_none : (n : ℕ) (which : ℕ → Bool) (s : Status) (rows : List Row) (a : ℕ) → numbered n rows a ≡ None
    → numbered n (mark n which s rows) a ≡ None
numbered-mark_none n which s [] a none = refl
numbered-mark_none n which s (r ∷ older) a none =
    grind (arith, nat_tests, length-mark, numbered-mark_none n which s older a)

-- what is so of the parent
pub at_parent_same : {X : Type 0} (none : X) (o : Origin) (f g : ℕ → X) → ((p : ℕ) → f p ≡ g p)
    → at_parent none o f ≡ at_parent none o g
at_parent_same none o f g same = grind (arith)

pub is_above-mark : (n : ℕ) (which : ℕ → Bool) (s : Status) (rows : List Row) (x y : ℕ)
    → is_above n (mark n which s rows) x y ≡ is_above n rows x y
is_above-mark n which s [] x y = refl
is_above-mark n which s (r ∷ older) x y =
    grind (arith, nat_tests, length-mark, at_parent_same, is_above-mark n which s older x)

pub depth_at-mark : (n : ℕ) (which : ℕ → Bool) (s : Status) (rows : List Row) (y : ℕ)
    → depth_at n (mark n which s rows) y ≡ depth_at n rows y
depth_at-mark n which s [] y = refl
depth_at-mark n which s (r ∷ older) y =
    grind (arith, nat_tests, length-mark, at_parent_same, depth_at-mark n which s older)

pub newest_where-mark : (test : Origin → Bool) (n : ℕ) (which : ℕ → Bool) (s : Status) (rows : List Row) (bound : ℕ)
    → newest_where test n (mark n which s rows) bound ≡ newest_where test n rows bound
newest_where-mark test n which s [] bound = refl
newest_where-mark test n which s (r ∷ older) bound =
    grind (arith, nat_tests, length-mark, newest_where-mark test n which s older bound)

-- what is so of each under which an action may have been begun
pub each_under : {X : Type 0} (o : Option ℕ) (f g : ℕ → Option X) → ((u : ℕ) → f u ≡ g u)
    → option_and_then f o ≡ option_and_then g o
each_under o f g same = grind (arith)

pub AreLinked-mark : (n : ℕ) (which : ℕ → Bool) (s : Status) (rows : List Row) → AreLinked n rows
    → AreLinked n (mark n which s rows)
AreLinked-mark n which s [] linked = tt
AreLinked-mark n which s (r ∷ older) linked =
    grind (arith, nat_tests, length-mark, AreLinked-mark n which s older linked.1)

pub mark-same : (n : ℕ) (v w : ℕ → Bool) (s : Status) (rows : List Row)
    → ((a : ℕ) → n ≤ a → a < n + length rows → v a ≡ w a) → mark n v s rows ≡ mark n w s rows
mark-same n v w s [] same = refl
mark-same n v w s (r ∷ older) same = grind (arith, nat_tests, mark-same n v w s older)

marked_twice : (a b : Bool) (s : Status) (row : Row)
    → cond a (with_status s (cond b (with_status s row) row)) (cond b (with_status s row) row)
    ≡ cond (b || a) (with_status s row) row
marked_twice a b s row = grind (arith)

pub mark-mark : (n : ℕ) (v w : ℕ → Bool) (s : Status) (rows : List Row)
    → mark n w s (mark n v s rows) ≡ mark n (λ a. v a || w a) s rows
mark-mark n v w s [] = refl
mark-mark n v w s (r ∷ older) = grind (arith, nat_tests, length-mark, marked_twice, mark-mark n v w s older)

pub mark_none : (n : ℕ) (w : ℕ → Bool) (s : Status) (rows : List Row)
    → ((a : ℕ) → n ≤ a → a < n + length rows → w a ≡ false) → mark n w s rows ≡ rows
mark_none n w s [] none = refl
mark_none n w s (r ∷ older) none = grind (arith, nat_tests, mark_none n w s older)

-- one, where the test is true
abbrev pub one : Bool → ℕ
one b = cond b 1 0

-- one live action less was begun under the action that the ended one was begun under
pub live_count-mark : (n : ℕ) (s : Status) (rows : List Row) (a ended : ℕ) (row : Row) → is_live s ≡ false
    → numbered n rows ended ≡ Some row
    → live_count (mark n (λ k. eqb k ended) s rows) a + one (is_begun_under a row.origin && is_live row.status)
    ≡ live_count rows a
live_count-mark n s [] a ended row over at = elim (none_some row at) [ ]
live_count-mark n s (r ∷ older) a ended row over at =
    grind (arith, nat_tests, mark_none, live_count-mark n s older a ended row over)
