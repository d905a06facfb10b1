-- The forms of types and shapes: a text begins with at most one.
use Rattle.std.proofs.Common.{◌≡◌, ◌≢◌, ℕ, true, List, [], ◌∷◌, ◌++◌, length, get_or, ◌&&◌, nat_lt, nat_le, refl, sym}
use Rattle.std.proofs.{Common.{ap, ◌∙◌, subst, append_assoc, codes, arith}, lemmas.Bool.and_parts}
use Rattle.std.specs.List.{list_all}
use Rattle.argus_contents.specs.{declared.limits.TheConstants.MAX_NAME_BYTES, Name.{is_name, is_name_byte}, Ty.more}
use Rattle.argus_contents.specs.Ty.{PlainTy, PlainFields, null, bool, int, text, atomic, sequence, fields, choice, none}
use Rattle.argus_contents.specs.Shape.{PlainShape, rec, arr, var}
use Rattle.argus_texts.specs.ShapeSpelling.{ty_spelling, names_inside, names_behind, shape_spelling, IsNamed, AreNamed}
use Rattle.argus_texts.specs.ShapeSpelling.{HasNames}
use Rattle.argus_texts.proofs.Lists.{tail_of, head_of}

-- NAMES

name_bytes : (name : List ℕ) → is_name name ≡ true → list_all is_name_byte name ≡ true
name_bytes name h =
    (and_parts (nat_lt 0 (length name) && nat_le (length name) MAX_NAME_BYTES) (list_all is_name_byte name) h).1

first_byte : (b : ℕ) (bs : List ℕ) → list_all is_name_byte (b ∷ bs) ≡ true → is_name_byte b ≡ true
first_byte b bs h = (and_parts (is_name_byte b) (list_all is_name_byte bs) h).0

other_bytes : (b : ℕ) (bs : List ℕ) → list_all is_name_byte (b ∷ bs) ≡ true → list_all is_name_byte bs ≡ true
other_bytes b bs h = (and_parts (is_name_byte b) (list_all is_name_byte bs) h).1

no_colon : (b : ℕ) → is_name_byte b ≡ true → b ≡ 58 → ⊥
no_colon b h e = let f : is_name_byte 58 ≡ true = subst (λ d. is_name_byte d ≡ true) e h in cc

no_bracket : (b : ℕ) → is_name_byte b ≡ true → b ≡ 93 → ⊥
no_bracket b h e = let f : is_name_byte 93 ≡ true = subst (λ d. is_name_byte d ≡ true) e h in cc

-- no byte of the list is a colon
abbrev pub NoColon : List ℕ → Type 0
NoColon [] = Unit {0}
NoColon (b ∷ bs) = (b ≢ 58) × NoColon bs

-- bytes without a colon end at the first colon
pub colon_told : (a b x y : List ℕ) → NoColon a → NoColon b → a ++ 58 ∷ x ≡ b ++ 58 ∷ y → (a ≡ b) × (x ≡ y)
colon_told [] [] x y g h e = (refl, tail_of e)
colon_told [] (c ∷ b) x y g h e = absurd (h.0 (sym (head_of e)))
colon_told (c ∷ a) [] x y g h e = absurd (g.0 (head_of e))
colon_told (c ∷ a) (d ∷ b) x y g h e =
    let r = colon_told a b x y g.1 h.1 (tail_of e) in
    (ap (λ z. c ∷ z) r.0 ∙ ap (λ z. z ∷ b) (head_of e), r.1)

bytes_no_colon : (bs : List ℕ) → list_all is_name_byte bs ≡ true → NoColon bs
bytes_no_colon [] h = tt
bytes_no_colon (b ∷ bs) h = (no_colon b (first_byte b bs h), bytes_no_colon bs (other_bytes b bs h))

pub name_no_colon : (name : List ℕ) → is_name name ≡ true → NoColon name
name_no_colon name h = bytes_no_colon name (name_bytes name h)

pub name_told : (a b x y : List ℕ) → is_name a ≡ true → is_name b ≡ true → a ++ 58 ∷ x ≡ b ++ 58 ∷ y → (a ≡ b) × (x ≡ y)
name_told a b x y g h e = colon_told a b x y (name_no_colon a g) (name_no_colon b h) e

-- a name is no closing bracket
pub name_opens : (a x y : List ℕ) → is_name a ≡ true → 93 ∷ y ≡ a ++ x → ⊥
name_opens [] x y h e = cc
name_opens (b ∷ a) x y h e = no_bracket b (first_byte b a (name_bytes (b ∷ a) h)) (sym (head_of e))

-- TYPES

-- a type's form begins with these two bytes
abbrev pub Leads : PlainTy → ℕ → ℕ → Type 0
Leads null c d = c ≡ 110
Leads bool c d = c ≡ 98
Leads int c d = c ≡ 105
Leads text c d = c ≡ 116
Leads atomic c d = c ≡ 97
Leads (sequence x) c d = (c ≡ 115) × (d ≡ 101)
Leads (fields fs) c d = (c ≡ 115) × (d ≡ 116)
Leads (choice fs) c d = c ≡ 111

pub leads : (t : PlainTy) (c d : ℕ) (x y : List ℕ) → c ∷ d ∷ x ≡ ty_spelling t ++ y → Leads t c d
leads p c d x y e = grind (arith, head_of, tail_of)

front_of : (t : PlainTy) → (c : ℕ) × (d : ℕ) × (rest : List ℕ) × (ty_spelling t ≡ c ∷ d ∷ rest)
front_of null = (110, 117, codes "ll", refl)
front_of bool = (98, 111, codes "ol", refl)
front_of int = (105, 110, codes "t", refl)
front_of text = (116, 101, codes "xt", refl)
front_of atomic = (97, 116, codes "omic", refl)
front_of (sequence x) = (115, 101, codes "quence[" ++ (ty_spelling x ++ 93 ∷ []), refl)
front_of (fields fs) = (115, 116, codes "ruct[" ++ names_inside fs, refl)
front_of (choice fs) = (111, 110, codes "eof[" ++ names_inside fs, refl)

both_lead : (s t : PlainTy) (x y : List ℕ) → ty_spelling s ++ x ≡ ty_spelling t ++ y
    → (c : ℕ) × (d : ℕ) × Leads s c d × Leads t c d
both_lead s t x y e =
    let f = front_of s in
    let g : f.0 ∷ f.1 ∷ (f.2 ++ x) ≡ ty_spelling s ++ x = sym (ap (λ (z : List ℕ). z ++ x) f.3) in
    (f.0, f.1, leads s f.0 f.1 (f.2 ++ x) x g, leads t f.0 f.1 (f.2 ++ x) y (g ∙ e))

-- a name, its type and what comes behind are told, where the type and what comes behind are
one_field : (a b : List ℕ) (s t : PlainTy) (fs gs : PlainFields) (x y : List ℕ) → is_name a ≡ true → is_name b ≡ true
    → ((u v : List ℕ) → ty_spelling s ++ u ≡ ty_spelling t ++ v → (s ≡ t) × (u ≡ v))
    → ((u v : List ℕ) → names_behind fs ++ u ≡ names_behind gs ++ v → (fs ≡ gs) × (u ≡ v))
    → names_inside (more a s fs) ++ x ≡ names_inside (more b t gs) ++ y → (more a s fs ≡ more b t gs) × (x ≡ y)
one_field a b s t fs gs x y g h ty rest e = let i = sym (append_assoc a (58 ∷ (ty_spelling s ++ names_behind fs)) x) ∙ e
    ∙ append_assoc b (58 ∷ (ty_spelling t ++ names_behind gs)) y in
    let r = name_told a b ((ty_spelling s ++ names_behind fs) ++ x) ((ty_spelling t ++ names_behind gs) ++ y) g h i in
    let q = ty (names_behind fs ++ x) (names_behind gs ++ y)
    (sym (append_assoc (ty_spelling s) (names_behind fs) x) ∙ r.1 ∙ append_assoc (ty_spelling t) (names_behind gs) y) in
    let p = rest x y q.1 in
    (ap (λ n. more n s fs) r.0 ∙ ap (λ z. more b z fs) q.0 ∙ ap (λ z. more b t z) p.0, p.1)

mutual
  -- a text begins with the form of one type at most
  pub one_ty : (s t : PlainTy) (x y : List ℕ) → IsNamed s → IsNamed t → ty_spelling s ++ x ≡ ty_spelling t ++ y
      → (s ≡ t) × (x ≡ y)
  one_ty null null x y g h e = (refl, cc)
  one_ty bool bool x y g h e = (refl, cc)
  one_ty int int x y g h e = (refl, cc)
  one_ty text text x y g h e = (refl, cc)
  one_ty atomic atomic x y g h e = (refl, cc)
  one_ty (sequence s) (sequence t) x y g h e =
      let i : (ty_spelling s ++ 93 ∷ []) ++ x ≡ (ty_spelling t ++ 93 ∷ []) ++ y = cc in
      let r = one_ty s t (93 ∷ x) (93 ∷ y) g h
      (sym (append_assoc (ty_spelling s) (93 ∷ []) x) ∙ i ∙ append_assoc (ty_spelling t) (93 ∷ []) y) in
      (ap sequence r.0, tail_of r.1)
  one_ty (fields fs) (fields gs) x y g h e =
      let i : names_inside fs ++ x ≡ names_inside gs ++ y = cc in
      let r = one_inside fs gs x y g h i in
      (ap fields r.0, r.1)
  one_ty (choice fs) (choice gs) x y g h e =
      let i : names_inside fs ++ x ≡ names_inside gs ++ y = cc in
      let r = one_inside fs gs x y g h i in
      (ap choice r.0, r.1)
  one_ty s t x y g h e = let b = both_lead s t x y e in absurd (omega arith)

  pub one_inside : (fs gs : PlainFields) (x y : List ℕ) → AreNamed fs → AreNamed gs
      → names_inside fs ++ x ≡ names_inside gs ++ y → (fs ≡ gs) × (x ≡ y)
  one_inside none none x y g h e = (refl, tail_of e)
  one_inside none (more b t gs) x y g h e =
      absurd (name_opens b _ x h.0 (e ∙ append_assoc b (58 ∷ (ty_spelling t ++ names_behind gs)) y))
  one_inside (more a s fs) none x y g h e =
      absurd (name_opens a _ y g.0 (sym e ∙ append_assoc a (58 ∷ (ty_spelling s ++ names_behind fs)) x))
  one_inside (more a s fs) (more b t gs) x y g h e =
      one_field a b s t fs gs x y g.0 h.0 (λ u v i. one_ty s t u v g.1 h.1 i) (λ u v i. one_behind fs gs u v g.2 h.2 i)
      e

  pub one_behind : (fs gs : PlainFields) (x y : List ℕ) → AreNamed fs → AreNamed gs
      → names_behind fs ++ x ≡ names_behind gs ++ y → (fs ≡ gs) × (x ≡ y)
  one_behind none none x y g h e = (refl, tail_of e)
  one_behind none (more b t gs) x y g h e = absurd (omega (arith, head_of e))
  one_behind (more a s fs) none x y g h e = absurd (omega (arith, head_of e))
  one_behind (more a s fs) (more b t gs) x y g h e =
      one_field a b s t fs gs x y g.0 h.0 (λ u v i. one_ty s t u v g.1 h.1 i) (λ u v i. one_behind fs gs u v g.2 h.2 i)
      (tail_of e)

-- SHAPES

-- the byte behind `atomic_`
abbrev pub Kind : PlainShape → ℕ
Kind (rec fs) = 114
Kind (arr x) = 97
Kind (var fs) = 118

kind_at : (s : PlainShape) (x : List ℕ) → get_or (shape_spelling s ++ x) 7 0 ≡ Kind s
kind_at p x = grind arith

same_kind : (s t : PlainShape) (x y : List ℕ) → shape_spelling s ++ x ≡ shape_spelling t ++ y → Kind s ≡ Kind t
same_kind s t x y e = sym (kind_at s x) ∙ ap (λ z. get_or z 7 0) e ∙ kind_at t y

-- a shape's form has that byte
pub kind_told : (s : PlainShape) (x rest : List ℕ) (k : ℕ) → get_or x 7 0 ≡ k → x ≡ shape_spelling s ++ rest
    → Kind s ≡ k
kind_told s x rest k h e = sym (kind_at s rest) ∙ sym (ap (λ z. get_or z 7 0) e) ∙ h

-- a text begins with the form of one shape at most
pub one_shape : (s t : PlainShape) (x y : List ℕ) → HasNames s → HasNames t
    → shape_spelling s ++ x ≡ shape_spelling t ++ y → (s ≡ t) × (x ≡ y)
one_shape p q x y g h e = grind (arith, one_inside, one_ty, append_assoc, tail_of, same_kind)
