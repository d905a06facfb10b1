-- Where a part of a shape comes, and where none does.
use Rattle.std.proofs.Common.{◌≡◌, ◌≢◌, ℕ, suc, ◌<◌, ◌-◌, true, false, List, [], ◌∷◌, ◌++◌, length, get_or, codes, None}
use Rattle.std.proofs.Common.{refl, sym, ap, ◌∙◌, subst, append_assoc, append-nil, arith}
use Rattle.argus_contents.specs.{Name.is_name, Shape.{PlainShape, rec, arr, var, fault_of}, Ty.{PlainTy, PlainFields}}
use Rattle.argus_contents.specs.Ty.{none, more, named}
use Rattle.argus_texts.specs.{Language.{First, IsNot, Reads, Starts}, Languages.Word, ShapeLanguages.{Shapes, Types}}
use Rattle.argus_texts.specs.ShapeLanguages.{BeginsNo, Closed, Fields, IsList, IsShallow, AreShallow, Lists, Names}
use Rattle.argus_texts.specs.ShapeSpelling.{ty_spelling, names_inside, names_behind, shape_spelling, IsNamed, AreNamed}
use Rattle.argus_texts.specs.ShapeSpelling.{HasNames, IsMakeable, IsShapeText}
use Rattle.argus_texts.proofs.{Items.NoEnd, Lists.{tail_of, head_of}, Stops.starts_with, Makeable.fields_makeable}
use Rattle.argus_texts.proofs.{Makeable.{tags_makeable, item_makeable, shallow_named}, ShapeForms.{NoColon, colon_told}}
use Rattle.argus_texts.proofs.ShapeForms.{name_no_colon, name_told, one_ty, one_shape, kind_told}

-- NAMES

colon_at : (name x : List ℕ) → get_or (name ++ 58 ∷ x) (length name) 0 ≡ 58
colon_at [] x = refl
colon_at (b ∷ name) x = colon_at name x

colon_within : (name x : List ℕ) → length name < length (name ++ 58 ∷ x)
colon_within [] x = omega arith
colon_within (b ∷ name) x = omega (arith, colon_within name x)

-- without a colon there is no name
pub no_name : (text : List ℕ) → ((i : ℕ) → i < length text → get_or text i 0 ≢ 58) → BeginsNo Names text
no_name text h = λ s. let e : text ≡ s.thing ++ 58 ∷ s.rest = s.reads.is ∙ append_assoc s.thing (58 ∷ []) s.rest in
    h (length s.thing) (subst (λ x. length s.thing < length x) (sym e) (colon_within s.thing s.rest))
    (ap (λ x. get_or x (length s.thing) 0) e ∙ colon_at s.thing s.rest)

no_colon_at : (front : List ℕ) → ((i : ℕ) → i < length front → get_or front i 0 ≢ 58) → NoColon front
no_colon_at [] h = tt
no_colon_at (b ∷ front) h = (h 0 (omega arith), no_colon_at front (λ i l. h (suc i) (omega arith)))

-- what stands before the colon is no name
pub bad_name : (text front rest : List ℕ) → text ≡ front ++ 58 ∷ rest
    → ((i : ℕ) → i < length front → get_or front i 0 ≢ 58) → is_name front ≡ false → BeginsNo Names text
bad_name text front rest e h b = λ s.
    let r = colon_told front s.thing rest s.rest (no_colon_at front h) (name_no_colon s.thing s.reads.good)
    (sym e ∙ s.reads.is ∙ append_assoc s.thing (58 ∷ []) s.rest) in
    let t : is_name front ≡ true = subst (λ n. is_name n ≡ true) (sym r.0) s.reads.good in cc

-- TYPES

-- a type without its closing bracket
pub not_closed : (k : ℕ) (text others : List ℕ) (t : PlainTy) → Reads (Types IsNamed) text t others → IsNot 93 others
    → BeginsNo (Closed (IsShallow k)) text
not_closed k text others t r n = grind (arith, one_ty, shallow_named, append_assoc)

-- FIELDS

-- without a name there is no field
pub no_name_no_field : (k : ℕ) (text : List ℕ) → BeginsNo Names text → BeginsNo (Fields (IsShallow k)) text
no_name_no_field k text h = λ s. h (starts_with Names s.thing.0 text (ty_spelling s.thing.1 ++ s.rest) s.reads.good.0 tt
    (s.reads.is ∙ append_assoc s.thing.0 (58 ∷ ty_spelling s.thing.1) s.rest
    ∙ sym (append_assoc s.thing.0 (58 ∷ []) (ty_spelling s.thing.1 ++ s.rest))))

-- a name without a type is no field
pub no_ty_no_field : (k : ℕ) (text name others : List ℕ) → Reads Names text name others
    → BeginsNo (Types (IsShallow k)) others → BeginsNo (Fields (IsShallow k)) text
no_ty_no_field k text name others r h = grind (arith, name_told, append_assoc, starts_with)

-- LISTS

regroup : (name ty behind end : List ℕ) → (name ++ 58 ∷ (ty ++ behind)) ++ end ≡ (name ++ 58 ∷ ty) ++ (behind ++ end)
regroup name ty behind end = simp append_assoc

-- a list's first field, and the others
pub record Front (n k : ℕ) (text : List ℕ) : Type 0 where
  pub field : Starts (Fields (IsShallow k)) text
  pub some : 0 < n
  pub others : PlainFields
  pub shallow : AreShallow (n - 1) k others
  pub end : List ℕ
  pub is : field.rest ≡ names_behind others ++ end

front_of : (n k : ℕ) (text end : List ℕ) (fs : PlainFields) → IsList n k fs → text ≡ names_inside fs ++ end
    → Front n k text
front_of n k text end none l e = absurd l.0
front_of n k text end (more name t fs) l e = record {
  field = record {
    thing = (name, t);
    rest = names_behind fs ++ end;
    reads = record { good = (l.1.1, l.1.2); ends = tt; is = e ∙ regroup name (ty_spelling t) (names_behind fs) end };
  };
  some = l.1.0;
  others = fs;
  shallow = l.1.3;
  end = end;
  is = refl;
}

pub front : (n k : ℕ) (text : List ℕ) → Starts (Lists (IsList n k)) text → Front n k text
front n k text s = front_of n k text s.rest s.thing s.reads.good s.reads.is

-- without a field there is no list
pub no_field_no_list : (n k : ℕ) (text : List ℕ) → BeginsNo (Fields (IsShallow k)) text
    → BeginsNo (Lists (IsList n k)) text
no_field_no_list n k text h = λ s. h (front n k text s).field

-- no name may come any more
pub no_more : (n k : ℕ) (text : List ℕ) → n ≡ 0 → BeginsNo (Lists (IsList n k)) text
no_more n k text h = λ s. let f = front n k text s in omega (arith, f.some)

-- the first field of a list is the one that was read
field_told : (n k : ℕ) (text behind : List ℕ) (f : List ℕ × PlainTy) → Reads (Fields IsNamed) text f behind
    → (s : Front n k text) → behind ≡ names_behind s.others ++ s.end
field_told n k text behind f r s = grind (arith, name_told, append_assoc, one_ty, shallow_named)

no_end_behind : (fs : PlainFields) (end : List ℕ) → First (NoEnd 93) (names_behind fs ++ end) → ⊥
no_end_behind none end n = n.1 refl
no_end_behind (more name t fs) end n = n.0 refl

-- a field, and neither a comma nor the closing bracket
pub no_end_no_list : (n k : ℕ) (text behind : List ℕ) (f : List ℕ × PlainTy) → Reads (Fields IsNamed) text f behind
    → First (NoEnd 93) behind → BeginsNo (Lists (IsList n k)) text
no_end_no_list n k text behind f r h = λ s. let t = front n k text s in
    no_end_behind t.others t.end (subst (First (NoEnd 93)) (field_told n k text behind f r t) h)

comma_behind : (n k : ℕ) (others end : List ℕ) (fs : PlainFields) → AreShallow n k fs
    → 44 ∷ others ≡ names_behind fs ++ end → Starts (Lists (IsList n k)) others
comma_behind n k others end p a e = grind (arith, head_of, starts_with, tail_of)

-- a field and a comma: the list goes on
pub comma_goes_on : (n m k : ℕ) (text behind others : List ℕ) (f : List ℕ × PlainTy)
    → Reads (Fields IsNamed) text f behind → behind ≡ 44 ∷ others → n - 1 ≡ m → Starts (Lists (IsList n k)) text
    → Starts (Lists (IsList m k)) others
comma_goes_on n m k text behind others f r e h s =
    let t = front n k text s in
    comma_behind m k others t.end t.others (subst (λ i. AreShallow i k t.others) h t.shallow)
    (sym e ∙ field_told n k text behind f r t)

-- WHAT WAS READ OF A LIST

-- names with their types, and a comma behind each
abbrev pub with_commas : List (List ℕ × PlainTy) → List ℕ
with_commas [] = []
with_commas (f ∷ fs) = f.0 ++ 58 ∷ (ty_spelling f.1 ++ 44 ∷ with_commas fs)

-- what was read of a list so far, and what is left
pub record Going (whole rest : List ℕ) (done : List (List ℕ × PlainTy)) : Type 0 where
  pub is : whole ≡ with_commas done ++ rest
  pub are_named : AreNamed (named done)

step : (name ty x y : List ℕ) → (name ++ 58 ∷ (ty ++ 44 ∷ x)) ++ y ≡ name ++ 58 ∷ (ty ++ 44 ∷ (x ++ y))
step name ty x y = simp append_assoc

more_commas : (done : List (List ℕ × PlainTy)) (f : List ℕ × PlainTy) (rest : List ℕ)
    → with_commas done ++ ((f.0 ++ 58 ∷ ty_spelling f.1) ++ 44 ∷ rest) ≡ with_commas (done ++ f ∷ []) ++ rest
more_commas [] f rest = simp append_assoc
more_commas (d ∷ done) f rest = grind (arith, step, more_commas done f rest)

last_closed : (done : List (List ℕ × PlainTy)) (f : List ℕ × PlainTy) (rest : List ℕ)
    → with_commas done ++ ((f.0 ++ 58 ∷ ty_spelling f.1) ++ 93 ∷ rest) ≡ names_inside (named (done ++ f ∷ [])) ++ rest
last_closed [] f rest = simp append_assoc
last_closed (d ∷ []) f rest = simp append_assoc
last_closed (d ∷ e ∷ done) f rest = grind (arith, step, last_closed (e ∷ done) f rest)

one_more_named : (done : List (List ℕ × PlainTy)) (f : List ℕ × PlainTy) → AreNamed (named done) → is_name f.0 ≡ true
    → IsNamed f.1 → AreNamed (named (done ++ f ∷ []))
one_more_named [] f a n t = (n, t, tt)
one_more_named (d ∷ done) f a n t = (a.0, a.1, one_more_named done f a.2 n t)

-- a field and a comma come
pub goes_on : (whole rest behind others : List ℕ) (done all : List (List ℕ × PlainTy)) (f : List ℕ × PlainTy)
    → Going whole rest done → Reads (Fields IsNamed) rest f behind → behind ≡ 44 ∷ others → all ≡ done ++ f ∷ []
    → Going whole others all
goes_on whole rest behind others done all f g r e a = grind (arith, more_commas, one_more_named)

-- a field and the closing bracket come
pub closes : (whole rest behind others : List ℕ) (done all : List (List ℕ × PlainTy)) (f : List ℕ × PlainTy)
    → Going whole rest done → Reads (Fields IsNamed) rest f behind → behind ≡ 93 ∷ others → all ≡ done ++ f ∷ []
    → Reads (Lists AreNamed) whole (named all) others
closes whole rest behind others done all f g r e a = grind (arith, one_more_named, last_closed)

-- SHAPES

record_at : (others rest : List ℕ) (s : PlainShape) → IsMakeable s
    → codes "atomic_record[" ++ others ≡ shape_spelling s ++ rest → Starts (Lists (IsList 64 16)) others
record_at others rest (rec fs) m e = starts_with _ fs _ rest (fields_makeable fs m) tt cc
record_at others rest s m e = let k = kind_told s (codes "atomic_record[" ++ others) rest 114 refl e in
    absurd (omega arith)

array_at : (others rest : List ℕ) (s : PlainShape) → IsMakeable s
    → codes "atomic_array[" ++ others ≡ shape_spelling s ++ rest → Starts (Closed (IsShallow 16)) others
array_at others rest (arr t) m e = starts_with _ t _ rest (item_makeable t m) tt cc
array_at others rest s m e = let k = kind_told s (codes "atomic_array[" ++ others) rest 97 refl e in
    absurd (omega arith)

variant_at : (others rest : List ℕ) (s : PlainShape) → IsMakeable s
    → codes "atomic_variant[" ++ others ≡ shape_spelling s ++ rest → Starts (Lists (IsList 64 16)) others
variant_at others rest (var fs) m e = starts_with _ fs _ rest (tags_makeable fs m) tt cc
variant_at others rest s m e = let k = kind_told s (codes "atomic_variant[" ++ others) rest 118 refl e in
    absurd (omega arith)

-- no list behind a record's word
pub no_record : (text others : List ℕ)
    → text ≡ codes "atomic_record[" ++ others → BeginsNo (Lists (IsList 64 16)) others → BeginsNo Shapes text
no_record text others e h = λ s. h (record_at others s.rest s.thing s.reads.good (sym e ∙ s.reads.is))

-- no item behind an array's word
pub no_array : (text others : List ℕ)
    → text ≡ codes "atomic_array[" ++ others → BeginsNo (Closed (IsShallow 16)) others → BeginsNo Shapes text
no_array text others e h = λ s. h (array_at others s.rest s.thing s.reads.good (sym e ∙ s.reads.is))

-- no list behind a variant's word
pub no_variant : (text others : List ℕ)
    → text ≡ codes "atomic_variant[" ++ others → BeginsNo (Lists (IsList 64 16)) others → BeginsNo Shapes text
no_variant text others e h = λ s. h (variant_at others s.rest s.thing s.reads.good (sym e ∙ s.reads.is))

no_word_at : (text rest : List ℕ) (s : PlainShape) → BeginsNo (Word (codes "atomic_record[")) text
    → BeginsNo (Word (codes "atomic_array[")) text
    → BeginsNo (Word (codes "atomic_variant[")) text → text ≡ shape_spelling s ++ rest → ⊥
no_word_at text rest (rec fs) r a v e = r (starts_with _ tt text (names_inside fs ++ rest) tt tt e)
no_word_at text rest (arr t) r a v e = a (starts_with _ tt text ((ty_spelling t ++ 93 ∷ []) ++ rest) tt tt e)
no_word_at text rest (var fs) r a v e = v (starts_with _ tt text (names_inside fs ++ rest) tt tt e)

-- none of the three words
pub no_word : (text : List ℕ) → BeginsNo (Word (codes "atomic_record[")) text
    → BeginsNo (Word (codes "atomic_array[")) text
    → BeginsNo (Word (codes "atomic_variant[")) text → BeginsNo Shapes text
no_word text r a v = λ s. no_word_at text s.rest s.thing r a v s.reads.is

-- a shape that can't be made
pub at_fault : (text rest : List ℕ) (s : PlainShape) → HasNames s → text ≡ shape_spelling s ++ rest
    → (fault_of s ≡ None → ⊥) → BeginsNo Shapes text
at_fault text rest s n e f = λ t. let o = one_shape s t.thing rest t.rest n t.reads.good.named (sym e ∙ t.reads.is) in
    f (subst (λ x. fault_of x ≡ None) (sym o.0) t.reads.good.no_fault)

-- a text that begins with no shape is no shape's
pub no_shape_text : (text : List ℕ) → BeginsNo Shapes text → IsShapeText text → ⊥
no_shape_text text h t =
    h (starts_with Shapes t.shape text [] t.makeable tt (t.is ∙ sym (append-nil (shape_spelling t.shape))))

-- something comes behind a shape
pub more_than_shape : (text rest : List ℕ) (s : PlainShape) → Reads Shapes text s rest → 0 < length rest
    → IsShapeText text → ⊥
more_than_shape text rest s r h t = let o = one_shape s t.shape rest [] r.good.named t.makeable.named
    (sym r.is ∙ t.is ∙ sym (append-nil (shape_spelling t.shape))) in
    omega (arith, ap length o.1)
