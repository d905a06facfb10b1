-- The form of a value: what it begins with, and that a text begins with at most one.
use Rattle.std.proofs.Common.{◌≡◌, ◌≢◌, ℕ, suc, ◌≤◌, ◌-◌, inl, inr, true, false, List, [], ◌∷◌, ◌++◌, refl, sym, ap}
use Rattle.std.proofs.Common.{◌∙◌, append_assoc, append-nil, arith}
use Rattle.std.specs.{Prelude.{ℤ, pos, negsuc, codes}, Fmt.{decimal, signed_decimal}}
use Rattle.argus_contents.specs.Value.{PlainValue, PlainValues, null, bool, int, text, atomic, sequence, fields, choice}
use Rattle.argus_contents.specs.Value.{none, more}
use Rattle.argus_texts.specs.Languages.{IsNoDigit, NotDigit, ValueEnds, BeginsInt, BeginsNoScalar, IsClose, Values}
use Rattle.argus_texts.specs.Spelling.{spelling, escaped, inside, behind, IsI64, Within, AllWithin}
use Rattle.argus_texts.proofs.{Lists.{tail_of, head_of}, Digits.{some_decimal, first_digit, one_decimal, ints_clear}}
use Rattle.argus_texts.proofs.{Quotes.quoted_clear, Stops.{Clear, Precedes}}

-- a value's form may begin with the byte
abbrev pub Lead : PlainValue → ℕ → Type 0
Lead null c = c ≡ 110
Lead (bool true) c = c ≡ 116
Lead (bool false) c = c ≡ 102
Lead (int n) c = BeginsInt c
Lead (text t) c = c ≡ 34
Lead (atomic o) c = c ≡ 64
Lead (sequence vs) c = c ≡ 91
Lead (fields vs) c = c ≡ 123
Lead (choice t v) c = c ≡ 60

pub int_lead : (z : ℤ) (c : ℕ) (x y : List ℕ) → IsI64 z → c ∷ x ≡ signed_decimal z ++ y → BeginsInt c
int_lead p c x y g e = grind (arith, first_digit, head_of)

pub lead_of : (k : ℕ) (e : PlainValue) (c : ℕ) (x y : List ℕ) → Within k e → c ∷ x ≡ spelling e ++ y → Lead e c
lead_of k p c x y w e = grind (arith, head_of, int_lead)

-- the same, without telling the two truth values apart
abbrev pub Kind : PlainValue → ℕ → Type 0
Kind (bool b) c = (102 ≤ c) × (c ≤ 116) × (c ≢ 110)
Kind v c = Lead v c

kind_from : (e : PlainValue) (c : ℕ) → Lead e c → Kind e c
kind_from p c l = grind arith

pub kind_of : (k : ℕ) (e : PlainValue) (c : ℕ) (x y : List ℕ) → Within k e → c ∷ x ≡ spelling e ++ y → Kind e c
kind_of k e c x y w i = kind_from e c (lead_of k e c x y w i)

abbrev Front : List ℕ → Type 0
Front form = (c : ℕ) × (ds : List ℕ) × (form ≡ c ∷ ds)

pub int_front : (z : ℤ) → IsI64 z → Front (signed_decimal z)
int_front (pos n) g = let s = some_decimal n (omega arith) in (s.0, s.1, s.2)
int_front (negsuc n) g = (45, decimal (suc n), refl)

front_of : (k : ℕ) (d : PlainValue) → Within k d → Front (spelling d)
front_of k null w = (110, codes "ull", refl)
front_of k (bool true) w = (116, codes "rue", refl)
front_of k (bool false) w = (102, codes "alse", refl)
front_of k (int n) w = int_front n w.1
front_of k (text t) w = (34, escaped t ++ 34 ∷ [], refl)
front_of k (atomic o) w = (64, decimal o, refl)
front_of k (sequence vs) w = (91, inside 93 vs, refl)
front_of k (fields vs) w = (123, inside 125 vs, refl)
front_of k (choice t v) w = (60, decimal t ++ 58 ∷ (spelling v ++ 62 ∷ []), refl)

pub some_form : (k : ℕ) (d : PlainValue) (y : List ℕ) → Within k d → [] ≡ spelling d ++ y → ⊥
some_form k d y w e = grind (arith, front_of)

-- no value's form begins with the byte
pub record NoLead (c : ℕ) : Type 0 where
  pub no_scalar : BeginsNoScalar c
  pub no_sequence : c ≢ 91
  pub no_fields : c ≢ 123
  pub no_choice : c ≢ 60

pub no_lead : (d : PlainValue) (c : ℕ) → NoLead c → Lead d c → ⊥
no_lead p c n l = grind arith

-- a closing byte begins no value's form
pub close_no_lead : (c : ℕ) → IsClose c → NoLead c
close_no_lead c h = grind arith

pub close_no_digit : (c : ℕ) → IsClose c → IsNoDigit c
close_no_digit c h = inr (omega (arith, h))

pub close_no_comma : (c : ℕ) → IsClose c → 44 ≢ c
close_no_comma c h = omega (arith, h)

-- a value's form doesn't begin with a closing byte
not_closing : (k close : ℕ) → IsClose close → (d : PlainValue) (x y : List ℕ) → Within k d → close ∷ x ≡ spelling d ++ y
    → ⊥
not_closing k close i d x y w e = no_lead d close (close_no_lead close i) (lead_of k d close x y w e)

no_digit_behind : (close : ℕ) → IsClose close → (vs : PlainValues) (x : List ℕ) → NotDigit (behind close vs ++ x)
no_digit_behind close i none x = close_no_digit close i
no_digit_behind close i (more d vs) x = inl (omega arith)

-- what may follow a value depends on its first byte alone
pub value_ends : (d : PlainValue) (x : List ℕ) → NotDigit x → ValueEnds d x
value_ends p x n = grind arith

pub ends_behind : (close : ℕ) → IsClose close → (d : PlainValue) (vs : PlainValues) (x : List ℕ)
    → ValueEnds d (behind close vs ++ x)
ends_behind close i d vs x = value_ends d (behind close vs ++ x) (no_digit_behind close i vs x)

pub ends_first : (d : PlainValue) (c : ℕ) (x y : List ℕ) → ValueEnds d (c ∷ x) → ValueEnds d (c ∷ y)
ends_first p c x y e = grind arith

pub value_precedes : (k c : ℕ) → IsNoDigit c → Precedes (Values k) c
value_precedes k c n = λ d y. value_ends d (c ∷ y) n

both_kinds : (k : ℕ) (d e : PlainValue) (x y : List ℕ) → Within k d → Within k e → spelling d ++ x ≡ spelling e ++ y
    → (c : ℕ) × Kind d c × Kind e c
both_kinds k d e x y w v q = grind (arith, front_of, kind_of, append-nil)

-- a tag's form, a value's and what comes behind them
pub choice_form : (t : ℕ) (v : PlainValue) (x : List ℕ)
    → (decimal t ++ 58 ∷ (spelling v ++ 62 ∷ [])) ++ x ≡ decimal t ++ 58 ∷ (spelling v ++ 62 ∷ x)
choice_form t v x = append_assoc (decimal t) (58 ∷ (spelling v ++ 62 ∷ [])) x
    ∙ ap (λ z. decimal t ++ 58 ∷ z) (append_assoc (spelling v) (62 ∷ []) x)

mutual
  pub one_form : (k : ℕ) (d e : PlainValue) (x y : List ℕ) → Within k d → Within k e → ValueEnds d x → ValueEnds e y
      → spelling d ++ x ≡ spelling e ++ y → (d ≡ e) × (x ≡ y)
  one_form k null null x y w v p q e = (refl, cc)
  one_form k (bool true) (bool true) x y w v p q e = (refl, cc)
  one_form k (bool false) (bool false) x y w v p q e = (refl, cc)
  one_form k (bool true) (bool false) x y w v p q e = absurd (omega (arith, head_of e))
  one_form k (bool false) (bool true) x y w v p q e = absurd (omega (arith, head_of e))
  one_form k (int m) (int n) x y w v p q e = let r = ints_clear.one m n x y w.1 v.1 p q e in (ap int r.0, r.1)
  one_form k (text s) (text t) x y w v p q e = let r = quoted_clear.one s t x y w.1 v.1 tt tt (tail_of e) in
      (ap text r.0, r.1)
  one_form k (atomic m) (atomic n) x y w v p q e = let r =
      one_decimal m n x y (omega (arith, w.1)) (omega (arith, v.1)) p q (tail_of e) in (ap atomic r.0, r.1)
  one_form k (sequence ds) (sequence es) x y w v p q e = let r =
      one_inside (k - 1) 93 (inl refl) ds es x y w.1 v.1 (tail_of e) in (ap sequence r.0, r.1)
  one_form k (fields ds) (fields es) x y w v p q e = let r =
      one_inside (k - 1) 125 (inr refl) ds es x y w.1 v.1 (tail_of e) in (ap fields r.0, r.1)
  one_form k (choice s d) (choice t e) x y w v p q i =
      let a : decimal s ++ 58 ∷ (spelling d ++ 62 ∷ x) ≡ decimal t ++ 58 ∷ (spelling e ++ 62 ∷ y) =
      sym (choice_form s d x) ∙ tail_of i ∙ choice_form t e y in
      let r = one_decimal s t (58 ∷ (spelling d ++ 62 ∷ x)) (58 ∷ (spelling e ++ 62 ∷ y)) (omega (arith, w.1))
      (omega (arith, v.1)) (inr (omega arith)) (inr (omega arith)) a in
      let u = one_form (k - 1) d e (62 ∷ x) (62 ∷ y) w.2 v.2 (value_ends d (62 ∷ x) (inr (omega arith)))
      (value_ends e (62 ∷ y) (inr (omega arith))) (tail_of r.1) in
      (ap (λ n. choice n d) r.0 ∙ ap (λ z. choice t z) u.0, tail_of u.1)
  one_form k d e x y w v p q i = let b = both_kinds k d e x y w v i in absurd (omega arith)

  pub one_inside : (k close : ℕ) → IsClose close → (ds es : PlainValues) (x y : List ℕ) → AllWithin k ds
      → AllWithin k es → inside close ds ++ x ≡ inside close es ++ y → (ds ≡ es) × (x ≡ y)
  one_inside k close i none none x y w v e = (refl, tail_of e)
  one_inside k close i none (more f es) x y w v e =
      absurd (not_closing k close i f _ _ v.0 (e ∙ append_assoc (spelling f) (behind close es) y))
  one_inside k close i (more d ds) none x y w v e =
      absurd (not_closing k close i d _ _ w.0 (sym e ∙ append_assoc (spelling d) (behind close ds) x))
  one_inside k close i (more d ds) (more f es) x y w v e =
      let both : spelling d ++ (behind close ds ++ x) ≡ spelling f ++ (behind close es ++ y) =
      sym (append_assoc (spelling d) (behind close ds) x) ∙ e ∙ append_assoc (spelling f) (behind close es) y in
      let r = one_form k d f (behind close ds ++ x) (behind close es ++ y) w.0 v.0 (ends_behind close i d ds x)
      (ends_behind close i f es y) both in
      let s = one_behind k close i ds es x y w.1 v.1 r.1 in
      (ap (λ a. more a ds) r.0 ∙ ap (λ a. more f a) s.0, s.1)

  pub one_behind : (k close : ℕ) → IsClose close → (ds es : PlainValues) (x y : List ℕ) → AllWithin k ds
      → AllWithin k es → behind close ds ++ x ≡ behind close es ++ y → (ds ≡ es) × (x ≡ y)
  one_behind k close i none none x y w v e = (refl, tail_of e)
  one_behind k close i none (more f es) x y w v e = absurd (close_no_comma close i (sym (head_of e)))
  one_behind k close i (more d ds) none x y w v e = absurd (close_no_comma close i (head_of e))
  one_behind k close i (more d ds) (more f es) x y w v e =
      let both : spelling d ++ (behind close ds ++ x) ≡ spelling f ++ (behind close es ++ y) =
      sym (append_assoc (spelling d) (behind close ds) x) ∙ tail_of e ∙ append_assoc (spelling f) (behind close es) y in
      let r = one_form k d f (behind close ds ++ x) (behind close es ++ y) w.0 v.0 (ends_behind close i d ds x)
      (ends_behind close i f es y) both in
      let s = one_behind k close i ds es x y w.1 v.1 r.1 in
      (ap (λ a. more a ds) r.0 ∙ ap (λ a. more f a) s.0, s.1)

pub values_clear : (k : ℕ) → Clear (Values k)
values_clear k = record { one = one_form k; nil = λ d. value_ends d [] tt; first = ends_first }
