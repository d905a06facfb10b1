-- Pieces that were appended one after another.
use Rattle.std.proofs.Common.{List, ap, append_assoc, ℕ, ◌++◌, ◌∙◌, ◌≡◌}

regroup : (old a b z : List ℕ) → ((old ++ a) ++ b) ++ z ≡ old ++ (a ++ b ++ z)
regroup old a b z = simp append_assoc

-- two pieces, and a third
pub three_pieces : (old one two a b z : List ℕ) → one ≡ old ++ a → two ≡ one ++ b → two ++ z ≡ old ++ (a ++ b ++ z)
three_pieces old one two a b z e f = ap (λ x. x ++ z) (f ∙ ap (λ x. x ++ b) e) ∙ regroup old a b z
