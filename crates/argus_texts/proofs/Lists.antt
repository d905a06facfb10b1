-- Lists of bytes: first bytes, common prefixes.
use Rattle.std.proofs.Common.{◌≡◌, ℕ, zero, suc, ◌<◌, ◌≤◌, true, List, [], ◌∷◌, ◌++◌, length, take, drop, get_or, sym}
use Rattle.std.proofs.{Common.{ap, ◌∙◌, arith, drop-cons}, lemmas.{Bool.and_parts, List.take-append-drop}}
use Rattle.std.specs.{Prelude.nat_lt, List.list_all}
use borrow.Author.Tests.{ltb-true}
use Rattle.argus_texts.specs.Language.{First, IsNot}

pub tail_of : {a b : ℕ} {xs ys : List ℕ} → a ∷ xs ≡ b ∷ ys → xs ≡ ys
tail_of e = cc

pub head_of : {a b : ℕ} {xs ys : List ℕ} → a ∷ xs ≡ b ∷ ys → a ≡ b
head_of e = cc

pub cancel : (a x y : List ℕ) → a ++ x ≡ a ++ y → x ≡ y
cancel [] x y e = e
cancel (b ∷ a) x y e = cancel a x y (tail_of e)

pub split_at : (word : List ℕ) (i : ℕ) → i < length word → word ≡ take i word ++ get_or word i 0 ∷ drop (suc i) word
split_at word i h = sym (take-append-drop i word) ∙ ap (λ ys. take i word ++ ys) (drop-cons word i 0 h)

-- a byte of an ASCII word
pub ascii_at : (word : List ℕ) (i : ℕ) → list_all (λ b. nat_lt b 128) word ≡ true → i < length word
    → get_or word i 0 < 128
ascii_at [] i h l = absurd (omega arith)
ascii_at (b ∷ word) zero h l = ltb-true b 128 (and_parts _ (list_all (λ b. nat_lt b 128) word) h).0
ascii_at (b ∷ word) (suc i) h l = ascii_at word i (and_parts (nat_lt b 128) _ h).1 (omega arith)

-- a text that doesn't begin with ASCII doesn't begin with such a byte
pub no_ascii_not : (b : ℕ) (x : List ℕ) → b < 128 → First (λ c. 128 ≤ c) x → IsNot b x
no_ascii_not b p l h = grind arith
