-- Bytes that were written in two parts.
use Rattle.std.proofs.Common.{ℕ, ◌+◌, List, ◌++◌, take, drop, Option, Some, None, sym, ◌∙◌, ap, append_assoc, take-add}
use Rattle.std.specs.Io.KnownBytes.{Appends}

pub appends_more : (a b c : Option (List ℕ)) (xs : List ℕ) (i n : ℕ) → Appends a b (take i xs)
    → Appends b c (take n (drop i xs)) → Appends a c (take (i + n) xs)
appends_more None b c xs i n p q = tt
appends_more (Some x) None c xs i n p q = absurd p
appends_more (Some x) (Some y) None xs i n p q = absurd q
appends_more (Some x) (Some y) (Some z) xs i n p q =
    q ∙ ap (λ t. t ++ take n (drop i xs)) p ∙ append_assoc x (take i xs) (take n (drop i xs))
    ∙ ap (λ t. x ++ t) (sym (take-add i n xs))
