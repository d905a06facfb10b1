-- The digits of numbers, and where they stop.
use Rattle.std.proofs.Common.{◌≡◌, ◌≢◌, ℕ, zero, suc, ◌<◌, ◌≤◌, ◌+◌, ◌-◌, ◌*◌, ◌^◌, ◌⊎◌, List, [], ◌∷◌, ◌++◌, length}
use Rattle.std.proofs.Common.{get_or, refl, sym, ap, ◌∙◌, subst, append-nil, append_assoc, arith}
use Rattle.std.proofs.lemmas.Fmt.{decimal_by_steps, decimal_step, decimal_digit, first_decimal, decimal_injective}
use Rattle.std.specs.{Prelude.{◌%◌, ◌/◌, ℤ, pos, negsuc}, Fmt.{decimal, signed_decimal}}
use Rattle.argus_texts.specs.{Language.{Starts, NoWay, Stops, First}, Spelling.IsI64, Languages.{IsNoDigit, NotDigit}}
use Rattle.argus_texts.specs.Languages.{Numbers, Ints}
use Rattle.argus_texts.proofs.{Lists.{tail_of, head_of}, Stops.{Clear, Behind, Among, starts_with, stops_now}}

abbrev AreDigits : List ℕ → Type 0
AreDigits [] = Unit {0}
AreDigits (c ∷ cs) = (48 ≤ c) × (c ≤ 57) × AreDigits cs

not_both : {c : ℕ} → 48 ≤ c → c ≤ 57 → IsNoDigit c → ⊥
not_both p q r = grind arith

moved : {a b : ℕ} → a ≡ b → IsNoDigit a → IsNoDigit b
moved e h = subst IsNoDigit e h

same_digits : (a b x y : List ℕ) → AreDigits a → AreDigits b → NotDigit x → NotDigit y → a ++ x ≡ b ++ y
    → (a ≡ b) × (x ≡ y)
same_digits [] [] x y p q h k e = (refl, e)
same_digits [] (b ∷ bs) [] y p q h k e = cc
same_digits [] (b ∷ bs) (c ∷ x) y p q h k e = absurd (not_both q.0 q.1 (moved (head_of e) h))
same_digits (a ∷ as') [] x [] p q h k e = cc
same_digits (a ∷ as') [] x (c ∷ y) p q h k e = absurd (not_both p.0 p.1 (moved (sym (head_of e)) k))
same_digits (a ∷ as') (b ∷ bs) x y p q h k e = let r = same_digits as' bs x y p.2 q.2 h k (tail_of e) in (cc, r.1)

digits_more : (ds : List ℕ) (c : ℕ) → AreDigits ds → 48 ≤ c → c ≤ 57 → AreDigits (ds ++ c ∷ [])
digits_more [] c h p q = (p, q, tt)
digits_more (d ∷ ds) c h p q = (h.0, h.1, digits_more ds c h.2 p q)

below_ten : (n : ℕ) → n % 10 < 10
below_ten n = omega arith

digits_decimal : (n : ℕ) → n < 2 ^ 64 → AreDigits (decimal n)
digits_decimal n h = decimal_by_steps (λ k ds. AreDigits ds) (λ k l. (omega arith, omega arith, tt))
    (λ k ds l r. digits_more ds (48 + k % 10) r (omega arith) (omega (arith, below_ten k))) n h

abbrev SomeDigits : List ℕ → Type 0
SomeDigits ds = (c : ℕ) × (cs : List ℕ) × (ds ≡ c ∷ cs) × (48 ≤ c) × (c ≤ 57)

pub some_decimal : (n : ℕ) → n < 2 ^ 64 → SomeDigits (decimal n)
some_decimal n h = decimal_by_steps (λ k ds. SomeDigits ds) (λ k l. (48 + k, [], refl, omega arith, omega arith))
    (λ k ds l r. (r.0, r.1 ++ (48 + k % 10) ∷ [], ap (λ xs. xs ++ (48 + k % 10) ∷ []) r.2, r.3, r.4)) n h

-- a number's form begins with a digit
pub first_digit : (n c : ℕ) (x y : List ℕ) → n < 2 ^ 64 → c ∷ x ≡ decimal n ++ y → (48 ≤ c) × (c ≤ 57)
first_digit n c x y h e =
    let s = some_decimal n h in
    let same : c ∷ x ≡ s.0 ∷ (s.1 ++ y) = e ∙ ap (λ (ds : List ℕ). ds ++ y) s.2 in
    let f : c ≡ s.0 = head_of same in
    (omega (arith, s.3), omega (arith, s.4))

pub no_empty_decimal : (n : ℕ) (y : List ℕ) → n < 2 ^ 64 → [] ≡ decimal n ++ y → ⊥
no_empty_decimal n y h e =
    let s = some_decimal n h in
    let f : [] ≡ s.0 ∷ (s.1 ++ y) = e ∙ ap (λ (ds : List ℕ). ds ++ y) s.2 in cc

pub one_decimal : (m n : ℕ) (x y : List ℕ) → m < 2 ^ 64 → n < 2 ^ 64 → NotDigit x → NotDigit y
    → decimal m ++ x ≡ decimal n ++ y → (m ≡ n) × (x ≡ y)
one_decimal m n x y h k p q e = grind (arith, same_digits, digits_decimal, decimal_injective)

-- a number above 0 begins with a digit above 0
first_above : (n c : ℕ) (x y : List ℕ) → 0 < n → n < 2 ^ 64 → c ∷ x ≡ decimal n ++ y → 48 < c
first_above n c x y p h e =
    let s = some_decimal n h in
    let same : c ∷ x ≡ s.0 ∷ (s.1 ++ y) = e ∙ ap (λ (ds : List ℕ). ds ++ y) s.2 in
    let f : c ≡ s.0 = head_of same in
    let g : get_or (decimal n) 0 0 ≡ s.0 = ap (λ ds. get_or ds 0 0) s.2 in
    omega (arith, first_decimal n p h)

abbrev val : ℕ → List ℕ → ℕ
val acc [] = acc
val acc (c ∷ cs) = val (acc * 10 + (c - 48)) cs

val-append : (a b : List ℕ) (acc : ℕ) → val acc (a ++ b) ≡ val (val acc a) b
val-append [] b acc = refl
val-append (c ∷ a) b acc = val-append a b (acc * 10 + (c - 48))

val_ge : (cs : List ℕ) (acc : ℕ) → acc ≤ val acc cs
val_ge [] acc = omega arith
val_ge (c ∷ cs) acc = omega (arith, val_ge cs (acc * 10 + (c - 48)))

by_ten : (n : ℕ) → (n / 10) * 10 + (48 + n % 10 - 48) ≡ n
by_ten n = omega arith

val_decimal : (n : ℕ) → n < 2 ^ 64 → val 0 (decimal n) ≡ n
val_decimal n h = decimal_by_steps (λ k ds. val 0 ds ≡ k) (λ k l. omega arith)
    (λ k ds l r. val-append ds ((48 + k % 10) ∷ []) 0 ∙ ap (λ v. v * 10 + (48 + k % 10 - 48)) r ∙ by_ten k) n h

ten_times : (n d : ℕ) → d < 10 → (10 * n + d) / 10 ≡ n
ten_times n d h = omega arith

ten_rest : (n d : ℕ) → d < 10 → (10 * n + d) % 10 ≡ d
ten_rest n d h = omega arith

grown_decimal : (n d : ℕ) → 0 < n → d < 10 → 10 * n + d < 2 ^ 64 → decimal (10 * n + d) ≡ decimal n ++ (48 + d) ∷ []
grown_decimal n d p l h = grind (arith, decimal_step, ten_times, ten_rest)

-- digits that go on with one more digit
longer : (a b : List ℕ) (c : ℕ) (more y : List ℕ) → AreDigits a → 48 ≤ c → c ≤ 57 → NotDigit y → a ++ c ∷ more ≡ b ++ y
    → (z : List ℕ) × (b ≡ a ++ c ∷ z)
longer [] [] c more [] p l h q e = cc
longer [] [] c more (d ∷ y) p l h q e = absurd (not_both l h (moved (sym (head_of e)) q))
longer [] (b ∷ bs) c more y p l h q e = (bs, ap (λ d. d ∷ bs) (sym (head_of e)))
longer (a ∷ as') [] c more [] p l h q e = cc
longer (a ∷ as') [] c more (d ∷ y) p l h q e = absurd (not_both p.0 p.1 (moved (sym (head_of e)) q))
longer (a ∷ as') (b ∷ bs) c more y p l h q e =
    grind (arith, longer as' bs c more y p.2 l h q (tail_of e), tail_of, head_of)

zero_alone : (m c : ℕ) (z : List ℕ) → m < 2 ^ 64 → decimal m ≡ 48 ∷ c ∷ z → ⊥
zero_alone zero c z h e = let f : 48 ∷ [] ≡ 48 ∷ c ∷ z = sym (decimal_digit 0 (omega arith)) ∙ e in cc
zero_alone (suc m) c z h e = let f = first_decimal (suc m) (omega arith) h in
    let g : get_or (decimal (suc m)) 0 0 ≡ 48 = ap (λ ds. get_or ds 0 0) e in omega arith

too_long : (most n m c : ℕ) (z : List ℕ) → n < 2 ^ 64 → m ≤ most → m < 2 ^ 64 → decimal m ≡ decimal n ++ c ∷ z
    → most < 10 * n + (c - 48) → ⊥
too_long most n m c z h l k e o = let v : m ≡ val (n * 10 + (c - 48)) z =
    sym (val_decimal m k) ∙ ap (val 0) e ∙ val-append (decimal n) (c ∷ z) 0
    ∙ ap (λ a. val (a * 10 + (c - 48)) z) (val_decimal n h) in
    omega (arith, val_ge z (n * 10 + (c - 48)))

cannot : (most n m c : ℕ) (z : List ℕ) → n < 2 ^ 64 → m ≤ most → m < 2 ^ 64 → decimal m ≡ decimal n ++ c ∷ z
    → (n ≡ 0) ⊎ (most < 10 * n + (c - 48)) → ⊥
cannot most n m c z h l k e p = grind (arith, zero_alone, decimal_digit, too_long)

-- NUMBERS

pub numbers_clear : (least most : ℕ) → most < 2 ^ 64 → Clear (Numbers least most)
numbers_clear least most h = grind (arith, one_decimal)

-- no number in range begins with the byte
abbrev pub NoFirst : ℕ → ℕ → Type 0
NoFirst least c = (c < 48 + least) ⊎ (57 < c)

no_first : (least most : ℕ) → least ≤ 1 → most < 2 ^ 64 → (n c : ℕ) (x y : List ℕ) → least ≤ n → n ≤ most
    → NoFirst least c → c ∷ x ≡ decimal n ++ y → ⊥
no_first least most l h r c x y p q s e = grind (arith, first_digit, first_above)

number_way : (least most : ℕ) → least ≤ 1 → most < 2 ^ 64 → (text : List ℕ) → First (NoFirst least) text
    → NoWay (Numbers least most) [] text
number_way least most l h [] o = λ s. no_empty_decimal s.thing s.rest (omega (arith, s.reads.good.1)) s.reads.is
number_way least most l h (c ∷ x) o =
    λ more s. no_first least most l h s.thing c more s.rest s.reads.good.0 s.reads.good.1 o s.reads.is

pub number_first_stops : (least most : ℕ) → least ≤ 1 → 9 ≤ most → most < 2 ^ 64 → (text : List ℕ)
    → First (NoFirst least) text → Stops (Numbers least most) text (length text)
number_first_stops least most l k h text o =
    stops_now (Numbers least most) (decimal 9) (record { thing = 9; good = (omega arith, k); is = refl }) text
    (number_way least most l h text o)

digit_way : (least most n c : ℕ) → most < 2 ^ 64 → n ≤ most → 48 ≤ c → c ≤ 57 → (n ≡ 0) ⊎ (most < 10 * n + (c - 48))
    → (more : List ℕ) → Starts (Numbers least most) (decimal n ++ c ∷ more) → ⊥
digit_way least most n c h g l u o more s =
    let m : s.thing < 2 ^ 64 = omega (arith, s.reads.good.1) in
    let k : n < 2 ^ 64 = omega arith in
    let r = longer (decimal n) (decimal s.thing) c more s.rest (digits_decimal n k) l u s.reads.ends s.reads.is in
    cannot most n s.thing c r.0 k s.reads.good.1 m r.1 o

pub number_digit_stops : (least most n c : ℕ) (text rest : List ℕ) → most < 2 ^ 64 → least ≤ n → n ≤ most
    → text ≡ decimal n ++ c ∷ rest → 48 ≤ c → c ≤ 57 → (n ≡ 0) ⊎ (most < 10 * n + (c - 48))
    → Stops (Numbers least most) text (length (c ∷ rest))
number_digit_stops least most n c text rest h p q e l u o = record {
  front = decimal n;
  back = c ∷ rest;
  whole = e;
  count = refl;
  more = [];
  way = record { thing = n; good = (p, q); is = append-nil (decimal n) };
  no_way = digit_way least most n c h q l u o;
}

pub one_digit : (f n : ℕ) (others : List ℕ) → 48 ≤ f → f ≤ 57 → n ≡ f - 48 → f ∷ others ≡ decimal n ++ others
one_digit f n others l u e = grind (arith, decimal_digit)

pub grown_step : (n next more : ℕ) (others : List ℕ) → 0 < n → more ≡ 10 * n + (next - 48) → more < 2 ^ 64 → 48 ≤ next
    → next ≤ 57 → decimal n ++ next ∷ others ≡ decimal more ++ others
grown_step n next more others p e h l u = grind (arith, grown_decimal, append_assoc)

pub ascii_no_first : (least : ℕ) (x : List ℕ) → First (λ c. 128 ≤ c) x → First (NoFirst least) x
ascii_no_first least p h = grind arith

-- INTEGERS

minus_starts : (z : ℤ) (u y : List ℕ) → IsI64 z → NotDigit y → 45 ∷ u ≡ signed_decimal z ++ y
    → Starts (Numbers 1 9223372036854775808) u
minus_starts p u y g n' e = grind (arith, first_digit, starts_with, tail_of)

below : (n : ℕ) → 1 ≤ n → suc (n - 1) ≡ n
below n h = omega arith

-- behind a sign
pub minus : Behind (45 ∷ []) (Numbers 1 9223372036854775808) Ints
minus = record {
  forms = λ u t f. (
    t,
    record {
      thing = negsuc (f.thing - 1);
      good = omega (arith, f.good.0, f.good.1);
      is = ap (λ x. 45 ∷ x) (f.is ∙ ap decimal (sym (below f.thing f.good.0)));
    },
  );
  starts = λ u s. minus_starts s.thing u s.rest s.reads.good s.reads.ends s.reads.is;
}

plain_starts : (z : ℤ) (u y : List ℕ) → First (λ c. c ≢ 45) u → IsI64 z → NotDigit y → u ≡ signed_decimal z ++ y
    → Starts (Numbers 0 9223372036854775807) u
plain_starts p u y o g q e = grind (arith, starts_with, head_of)

-- without one
pub plain : Among (λ c. c ≢ 45) (Numbers 0 9223372036854775807) Ints
plain = record {
  forms = λ u f. record { thing = pos f.thing; good = omega (arith, f.good.1); is = f.is };
  starts = λ u o s. plain_starts s.thing u s.rest o s.reads.good s.reads.ends s.reads.is;
}

one_int : (a b : ℤ) (x y : List ℕ) → IsI64 a → IsI64 b → NotDigit x → NotDigit y
    → signed_decimal a ++ x ≡ signed_decimal b ++ y → (a ≡ b) × (x ≡ y)
one_int r s x y g h p q e = grind (arith, one_decimal, first_digit, tail_of)

pub ints_clear : Clear Ints
ints_clear = record { one = one_int; nil = λ a. tt; first = λ a c x y e. e }
