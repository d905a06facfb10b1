-- Pieces that were appended one after another.
use Rattle.std.proofs.{Common.{arith, List, ap, append_assoc, ℕ, ◌++◌, ◌∙◌, ◌≡◌}, lemmas.Bool.Decides.nat_tests}

regroup : (old p e s : List ℕ) → (old ++ p) ++ (e ++ s) ≡ old ++ (p ++ e ++ s)
regroup old p e s = simp append_assoc

-- a word with a number, and a value behind a blank
pub two_pieces : (old mid p e s : List ℕ) → mid ≡ old ++ p → mid ++ (e ++ s) ≡ old ++ (p ++ e ++ s)
two_pieces old mid p e s h = ap (λ x. x ++ (e ++ s)) h ∙ regroup old p e s

regroup_line : (old n b c a r : List ℕ) → (((old ++ n) ++ b) ++ c) ++ a ++ r ≡ old ++ (n ++ b ++ c ++ a ++ r)
regroup_line old n b c a r = simp append_assoc

-- a number, a blank, a call, an arrow and a reply
pub line : (old one two three four n b c a r : List ℕ) → one ≡ old ++ n → two ≡ one ++ b → three ≡ two ++ c
    → four ≡ three ++ a → four ++ r ≡ old ++ (n ++ b ++ c ++ a ++ r)
line old one two three four n b c a r e f g h = grind (arith, nat_tests, regroup_line)
