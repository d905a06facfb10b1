-- Lists of numbers, and tests of their members.
use Rattle.std.specs.Prelude.{Bool, List, [], false, filter, if◌then◌else◌, nat_lt, not, ℕ, ◌==◌, ◌||◌, ◌∷◌}

-- x is one of these
abbrev pub contains : List ℕ → ℕ → Bool
contains [] x = false
contains (y ∷ ys) x = (x == y) || contains ys x

-- the list, with the number in its place among smaller and greater ones, unless it is there
abbrev pub insert : ℕ → List ℕ → List ℕ
insert x [] = x ∷ []
insert x (y ∷ ys) = if x == y then y ∷ ys else if nat_lt x y then x ∷ y ∷ ys else y ∷ insert x ys

-- the numbers other than x
abbrev pub without : ℕ → List ℕ → List ℕ
without x ys = filter (λ y. not (y == x)) ys
