-- The written forms of queries and changes tell them apart, whatever stands behind them.
use Rattle.std.proofs.Common.{List, ap, append_assoc, arith, inl, sym, true, ℕ, ℤ, ◌++◌, ◌<◌, ◌^◌, ◌∙◌, ◌∷◌, ◌≡◌}
use Rattle.std.{proofs.lemmas.Bool.Decides.nat_tests, specs.{Fmt.{decimal, signed_decimal}, Prelude.{codes, ◌==◌}}}
use Rattle.argus_contents.specs.{Change.PlainChange, Value.PlainValue, declared.query.Query.Query}
use Rattle.argus_texts.{specs.{Languages.NotDigit, Spelling.{IsI64, Within, spelling}}, proofs.Contents.one_content}
use Rattle.argus_texts.proofs.{Digits.one_decimal, Forms.{one_form, value_ends}, Lists.{cancel, tail_of}}
use Rattle.argus_entries.specs.{Laws.{ChangeWithin, QueryWithin}, OperationSpelling.{change_spelling, query_spelling}}
use Rattle.argus_entries.proofs.FirstWords.{change_kind, one_change_kind, one_query_kind, query_kind}
use Rattle.argus_contents.specs.Change as change
use Rattle.argus_contents.specs.Value as value

pub wide : (n : ℕ) → n < 2 ^ 32 → n < 2 ^ 64
wide n l = omega arith

byte_wide : (n : ℕ) → n < 2 ^ 8 → n < 2 ^ 64
byte_wide n l = omega arith

-- a word and what stands behind it
pub behind_word : (w s t x y : List ℕ) → (w ++ s) ++ x ≡ (w ++ t) ++ y → s ++ x ≡ t ++ y
behind_word w s t x y e = cancel w (s ++ x) (t ++ y) (sym (append_assoc w s x) ∙ e ∙ append_assoc w t y)

pub one_value : (k : ℕ) (v w : PlainValue) (x y : List ℕ) → Within k v → Within k w → NotDigit x → NotDigit y
    → spelling v ++ x ≡ spelling w ++ y → (v ≡ w) × (x ≡ y)
one_value k v w x y a b nx ny e = one_form k v w x y a b (value_ends v x nx) (value_ends w y ny) e

-- an integer is written as the value that it makes
abbrev int_of : PlainValue → ℤ → ℤ
int_of (value.int n) d = n
int_of _ d = d

pub one_int : (m n : ℤ) (x y : List ℕ) → IsI64 m → IsI64 n → NotDigit x → NotDigit y
    → signed_decimal m ++ x ≡ signed_decimal n ++ y → (m ≡ n) × (x ≡ y)
one_int m n x y a b nx ny e =
    let r = one_value 1 (value.int m) (value.int n) x y (omega arith, a) (omega arith, b) nx ny e in
    (ap (λ v. int_of v m) r.0, r.1)

pub four_pieces : (a b c d x : List ℕ) → a ++ b ++ c ++ d ++ x ≡ a ++ (b ++ (c ++ (d ++ x)))
four_pieces a b c d x = simp append_assoc

-- a word, a number, a blank and what stands behind it
spaced : (w m n s t x y : List ℕ) → (w ++ m ++ codes " " ++ s) ++ x ≡ (w ++ n ++ codes " " ++ t) ++ y
    → m ++ 32 ∷ (s ++ x) ≡ n ++ 32 ∷ (t ++ y)
spaced w m n s t x y e = grind (arith, nat_tests, cancel, four_pieces)

query_told : (q r : Query) (x y : List ℕ) → QueryWithin q → QueryWithin r → NotDigit x → NotDigit y
    → (query_kind q == query_kind r) ≡ true → query_spelling q ++ x ≡ query_spelling r ++ y → (q ≡ r) × (x ≡ y)
query_told q r x y a b nx ny k e = grind (arith, nat_tests, cancel, one_decimal, byte_wide, behind_word, one_int)

pub one_query : (q r : Query) (x y : List ℕ) → QueryWithin q → QueryWithin r → NotDigit x → NotDigit y
    → query_spelling q ++ x ≡ query_spelling r ++ y → (q ≡ r) × (x ≡ y)
one_query q r x y a b nx ny e = grind (arith, nat_tests, query_told, one_query_kind)

change_told : (k : ℕ) (c d : PlainChange) (x y : List ℕ) → ChangeWithin k c → ChangeWithin k d → NotDigit x → NotDigit y
    → (change_kind c == change_kind d) ≡ true → change_spelling c ++ x ≡ change_spelling d ++ y → (c ≡ d) × (x ≡ y)
change_told k (change.set_field i v) (change.set_field j w) x y a b nx ny q e =
    let f = spaced (codes "set_field ") (decimal i) (decimal j) (spelling v) (spelling w) x y e in
    let r = one_decimal i j (32 ∷ (spelling v ++ x)) (32 ∷ (spelling w ++ y)) (byte_wide i a.0) (byte_wide j b.0)
    (inl (omega arith)) (inl (omega arith)) f in
    grind (arith, one_value k v w x y a.1 b.1 nx ny (tail_of r.1))
change_told k (change.store i v) (change.store j w) x y a b nx ny q e =
    let f = spaced (codes "store ") (signed_decimal i) (signed_decimal j) (spelling v) (spelling w) x y e in
    let r = one_int i j (32 ∷ (spelling v ++ x)) (32 ∷ (spelling w ++ y)) a.0 b.0 (inl (omega arith))
    (inl (omega arith)) f in
    grind (arith, one_value k v w x y a.1 b.1 nx ny (tail_of r.1))
change_told k (change.trim i m) (change.trim j n) x y a b nx ny q e =
    let f = spaced (codes "trim ") (signed_decimal i) (signed_decimal j) (signed_decimal m) (signed_decimal n) x y e in
    let r = one_int i j (32 ∷ (signed_decimal m ++ x)) (32 ∷ (signed_decimal n ++ y)) a.0 b.0 (inl (omega arith))
    (inl (omega arith)) f in grind (arith, one_int m n x y a.1 b.1 nx ny (tail_of r.1))
change_told k (change.change_tag t v) (change.change_tag u w) x y a b nx ny q e =
    let f = spaced (codes "change_tag ") (decimal t) (decimal u) (spelling v) (spelling w) x y e in
    let r = one_decimal t u (32 ∷ (spelling v ++ x)) (32 ∷ (spelling w ++ y)) (byte_wide t a.0) (byte_wide u b.0)
    (inl (omega arith)) (inl (omega arith)) f in
    grind (arith, one_value k v w x y a.1 b.1 nx ny (tail_of r.1))
change_told k c d x y a b nx ny q e = grind (arith, nat_tests, one_content k, one_value k, one_int, cancel)

pub one_change : (k : ℕ) (c d : PlainChange) (x y : List ℕ) → ChangeWithin k c → ChangeWithin k d → NotDigit x
    → NotDigit y → change_spelling c ++ x ≡ change_spelling d ++ y → (c ≡ d) × (x ≡ y)
one_change k c d x y a b nx ny e = grind (arith, nat_tests, change_told, one_change_kind)
