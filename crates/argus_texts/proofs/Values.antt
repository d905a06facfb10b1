-- Where reading a value stops, from where a part of it does.
use Rattle.std.proofs.Common.{◌≡◌, ◌≢◌, ℕ, ◌<◌, ◌≤◌, ◌-◌, ◌⊎◌, true, false, List, [], ◌∷◌, ◌++◌, length, refl, subst}
use Rattle.std.proofs.Common.{sym, arith}
use Rattle.std.specs.Prelude.{codes}
use Rattle.argus_contents.specs.Value.{PlainValue, null, bool, int, text, atomic, sequence, fields, choice}
use Rattle.argus_texts.specs.{Language.{Starts, NoWay, Stops, First}, Languages.{Insides, Choices, ValueEnds}}
use Rattle.argus_texts.specs.Languages.{BeginsInt, BeginsNoScalar, Numbers, Ints, Word, Quoted, Values}
use Rattle.argus_texts.specs.Spelling.{spelling, Within}
use Rattle.argus_texts.proofs.{Lists.{tail_of, head_of}, Forms.{Lead, lead_of, kind_of, no_lead, some_form}}
use Rattle.argus_texts.proofs.Stops.{Behind, Among, behind_byte, starts_with, stops_now}

-- SCALARS

null_starts : (k : ℕ) (e : PlainValue) (u y : List ℕ) → Within k e → 110 ∷ u ≡ spelling e ++ y
    → Starts (Word (codes "ull")) u
null_starts k p u y w i = grind (arith, starts_with, tail_of, kind_of)

pub null_word : (k : ℕ) → 0 < k → Behind (110 ∷ []) (Word (codes "ull")) (Values k)
null_word k p = behind_byte 110 _ _ (λ t g. (null, p, refl)) (λ e u y w v i. null_starts k e u y w i)

true_starts : (k : ℕ) (e : PlainValue) (u y : List ℕ) → Within k e → 116 ∷ u ≡ spelling e ++ y
    → Starts (Word (codes "rue")) u
true_starts k p u y w i = grind (arith, starts_with, tail_of, head_of, kind_of)

pub true_word : (k : ℕ) → 0 < k → Behind (116 ∷ []) (Word (codes "rue")) (Values k)
true_word k p = behind_byte 116 _ _ (λ t g. (bool true, p, refl)) (λ e u y w v i. true_starts k e u y w i)

false_starts : (k : ℕ) (e : PlainValue) (u y : List ℕ) → Within k e → 102 ∷ u ≡ spelling e ++ y
    → Starts (Word (codes "alse")) u
false_starts k p u y w i = grind (arith, starts_with, tail_of, head_of, kind_of)

pub false_word : (k : ℕ) → 0 < k → Behind (102 ∷ []) (Word (codes "alse")) (Values k)
false_word k p = behind_byte 102 _ _ (λ t g. (bool false, p, refl)) (λ e u y w v i. false_starts k e u y w i)

quote_starts : (k : ℕ) (e : PlainValue) (u y : List ℕ) → Within k e → 34 ∷ u ≡ spelling e ++ y → Starts Quoted u
quote_starts k p u y w i = grind (arith, starts_with, tail_of, kind_of)

pub quote : (k : ℕ) → 0 < k → Behind (34 ∷ []) Quoted (Values k)
quote k p = behind_byte 34 _ _ (λ t g. (text t, (p, g), refl)) (λ e u y w v i. quote_starts k e u y w i)

at_starts : (k : ℕ) (e : PlainValue) (u y : List ℕ) → Within k e → ValueEnds e y → 64 ∷ u ≡ spelling e ++ y
    → Starts (Numbers 0 4294967295) u
at_starts k p u y w v i = grind (arith, starts_with, tail_of, kind_of)

pub at_sign : (k : ℕ) → 0 < k → Behind (64 ∷ []) (Numbers 0 4294967295) (Values k)
at_sign k p = behind_byte 64 _ _ (λ o g. (atomic o, (p, omega (arith, g.1)), refl)) (at_starts k)

int_starts_at : (k c : ℕ) (e : PlainValue) (u y : List ℕ) → BeginsInt c → Within k e → ValueEnds e y
    → c ∷ u ≡ spelling e ++ y → Starts Ints (c ∷ u)
int_starts_at k c p u y b w v i = grind (arith, kind_of)

int_starts : (k : ℕ) (u : List ℕ) → First BeginsInt u → Starts (Values k) u → Starts Ints u
int_starts k p b s = grind (arith, some_form, int_starts_at)

pub integer : (k : ℕ) → 0 < k → Among BeginsInt Ints (Values k)
integer k p = record {
  forms = λ u f. record { thing = int f.thing; good = (p, f.good); is = f.is };
  starts = λ u b s. int_starts k u b s;
}

-- COMPOUNDS

bracket_starts : (k : ℕ) (e : PlainValue) (u y : List ℕ) → Within k e → 91 ∷ u ≡ spelling e ++ y
    → Starts (Insides 93 (k - 1)) u
bracket_starts k p u y w i = grind (arith, starts_with, tail_of, kind_of)

pub bracket : (k : ℕ) → 0 < k → Behind (91 ∷ []) (Insides 93 (k - 1)) (Values k)
bracket k p = behind_byte 91 _ _ (λ t g. (sequence t, (p, g), refl)) (λ e u y w v i. bracket_starts k e u y w i)

brace_starts : (k : ℕ) (e : PlainValue) (u y : List ℕ) → Within k e → 123 ∷ u ≡ spelling e ++ y
    → Starts (Insides 125 (k - 1)) u
brace_starts k p u y w i = grind (arith, starts_with, tail_of, kind_of)

pub brace : (k : ℕ) → 0 < k → Behind (123 ∷ []) (Insides 125 (k - 1)) (Values k)
brace k p = behind_byte 123 _ _ (λ t g. (fields t, (p, g), refl)) (λ e u y w v i. brace_starts k e u y w i)

angle_starts : (k : ℕ) (e : PlainValue) (u y : List ℕ) → Within k e → 60 ∷ u ≡ spelling e ++ y
    → Starts (Choices (k - 1)) u
angle_starts k (choice t v) u y w i =
    starts_with _ (t, (v, tt)) u y ((omega arith, omega (arith, w.1)), (w.2, tt)) tt (tail_of i)
angle_starts k e u y w i = let l = kind_of k e 60 u y w i in absurd (omega arith)

pub angle : (k : ℕ) → 0 < k → Behind (60 ∷ []) (Choices (k - 1)) (Values k)
angle k p = behind_byte 60 _ _ (λ t g. (choice t.0 t.1.0, (p, omega (arith, g.0.1), g.1.0), refl))
    (λ e u y w v i. angle_starts k e u y w i)

pub none_within : (d : PlainValue) → Within 0 d → ⊥
none_within null w = omega arith
none_within (bool b) w = omega arith
none_within d w = omega (arith, w.0)

-- no value of depth k begins with the byte
abbrev pub IsOther : ℕ → ℕ → Type 0
IsOther k c = BeginsNoScalar c × (c ≢ 91) × (c ≢ 123) × ((c ≢ 60) ⊎ (k ≡ 1))

one_less : (k : ℕ) → k ≡ 1 → k - 1 ≡ 0
one_less k h = omega arith

deep_lead : (k c : ℕ) (e : PlainValue) → BeginsNoScalar c → c ≢ 91 → c ≢ 123 → k ≡ 1 → Within k e → Lead e c → ⊥
deep_lead k c r b p q h w l = grind (arith, none_within, one_less)

other_by : (k c : ℕ) (e : PlainValue) → BeginsNoScalar c → c ≢ 91 → c ≢ 123 → (c ≢ 60) ⊎ (k ≡ 1) → Within k e → Lead e c
    → ⊥
other_by k c e b p q r w l = grind (arith, no_lead, deep_lead)

other_lead : (k : ℕ) (e : PlainValue) (c : ℕ) → IsOther k c → Within k e → Lead e c → ⊥
other_lead k e c o w l = other_by k c e o.0 o.1 o.2 o.3 w l

other_way : (k : ℕ) (x : List ℕ) → First (IsOther k) x → NoWay (Values k) [] x
other_way k p o = grind (arith, some_form, other_lead, lead_of)

-- a first byte that begins no scalar and opens no compound of this depth begins no value of it
pub first_other : (k c : ℕ) (x y : List ℕ) → y ≡ c ∷ x → First BeginsNoScalar y → c ≢ 91 → c ≢ 123 → (c ≢ 60) ⊎ (k ≡ 1)
    → First (IsOther k) y
first_other k c x y e b p q n = subst (First (IsOther k)) (sym e) (subst (First BeginsNoScalar) e b, p, q, n)

pub other_stops : (k : ℕ) → 0 < k → (x : List ℕ) → First (IsOther k) x → Stops (Values k) x (length x)
other_stops k p x o =
    stops_now (Values k) (codes "null") (record { thing = null; good = p; is = refl }) x (other_way k x o)

pub no_ascii_other : (k : ℕ) (x : List ℕ) → First (λ c. 128 ≤ c) x → First (IsOther k) x
no_ascii_other k p h = grind arith
