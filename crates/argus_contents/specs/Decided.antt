-- The tests of what is said say exactly whether it is the same.
use lib.Pointwise.{bytes_decides, pointwise}
use Rattle.std.proofs.Common.{Bool, List, [], ap, refl, subst, sym, true, ◌∙◌, ◌∷◌, ◌≡◌}
use Rattle.std.proofs.lemmas.Bool.{and_from, and_parts, eq-eqb, eqb-true, false≢true}
use Rattle.std.specs.{Bool.{Decides, one_answer}, Cmp.{IsPartialEquivalence, booleans_Decides, signed_Decides}}
use Rattle.std.specs.{Ordering.int_eq, Prelude.{nat_eq, ◌&&◌, ◌==◌, ◌↔◌}}
use Rattle.argus_contents.specs.{Answer.PlainAnswer, Change.PlainChange, Content.PlainContent, Shape.PlainShape}
use Rattle.argus_contents.specs.Same.{same_answer, same_change, same_content, same_fields, same_shape, same_signal}
use Rattle.argus_contents.specs.{Same.{same_ty, same_value, same_values}, Ty.{PlainFields, PlainTy}}
use Rattle.argus_contents.specs.{Value.{PlainValue, PlainValues, listed}, declared.signal.Signal.Signal}
use Rattle.argus_contents.specs.Answer as answer
use Rattle.argus_contents.specs.Change as change
use Rattle.argus_contents.specs.Content as content
use Rattle.argus_contents.specs.Shape as shape
use Rattle.argus_contents.specs.Ty as ty
use Rattle.argus_contents.specs.Value as value
use Rattle.argus_contents.specs.declared.signal.Signal.TheVariants as signal

-- two tests at once
both : (s t : Bool) → (s && t) ≡ true → (s ≡ true) × (t ≡ true)
both s t e = and_parts s t e

mutual
  -- values that the test finds the same are equal
  value_told : (a b : PlainValue) → same_value a b ≡ true → a ≡ b
  value_told value.null value.null e = refl
  value_told (value.bool a) (value.bool b) e = ap value.bool ((booleans_Decides a b).0 e)
  value_told (value.int a) (value.int b) e = ap value.int ((signed_Decides a b).0 e)
  value_told (value.text a) (value.text b) e = ap value.text ((bytes_decides a b).0 e)
  value_told (value.atomic a) (value.atomic b) e = ap value.atomic (eqb-true a b e)
  value_told (value.sequence a) (value.sequence b) e = ap value.sequence (values_told a b e)
  value_told (value.fields a) (value.fields b) e = ap value.fields (values_told a b e)
  value_told (value.choice t a) (value.choice u b) e =
      let q = both (t == u) (same_value a b) e in
      ap (λ x. value.choice x a) (eqb-true t u q.0) ∙ ap (value.choice u) (value_told a b q.1)
  value_told _ _ e = absurd (false≢true e)

  -- and so are lists of them, in their plain form
  values_told : (a b : PlainValues) → same_values a b ≡ true → a ≡ b
  values_told value.none value.none e = refl
  values_told (value.more a rest) (value.more b others) e =
      let q = both (same_value a b) (same_values rest others) e in
      ap (λ x. value.more x rest) (value_told a b q.0)
      ∙ ap (value.more b) (values_told rest others q.1)
  values_told _ _ e = absurd (false≢true e)

mutual
  -- the test finds each value the same as itself
  value_itself : (a : PlainValue) → same_value a a ≡ true
  value_itself value.null = refl
  value_itself (value.bool a) = (booleans_Decides a a).1 refl
  value_itself (value.int a) = (signed_Decides a a).1 refl
  value_itself (value.text a) = (bytes_decides a a).1 refl
  value_itself (value.atomic a) = eq-eqb a a refl
  value_itself (value.sequence a) = values_itself a
  value_itself (value.fields a) = values_itself a
  value_itself (value.choice t a) =
      and_from (t == t) (same_value a a) (eq-eqb t t refl) (value_itself a)

  -- and each list of them, in its plain form
  values_itself : (a : PlainValues) → same_values a a ≡ true
  values_itself value.none = refl
  values_itself (value.more a rest) =
      and_from (same_value a a) (same_values rest rest) (value_itself a) (values_itself rest)

mutual
  -- types that the test finds the same are equal
  ty_told : (a b : PlainTy) → same_ty a b ≡ true → a ≡ b
  ty_told ty.null ty.null e = refl
  ty_told ty.bool ty.bool e = refl
  ty_told ty.int ty.int e = refl
  ty_told ty.text ty.text e = refl
  ty_told ty.atomic ty.atomic e = refl
  ty_told (ty.sequence a) (ty.sequence b) e = ap ty.sequence (ty_told a b e)
  ty_told (ty.fields a) (ty.fields b) e = ap ty.fields (fields_told a b e)
  ty_told (ty.choice a) (ty.choice b) e = ap ty.choice (fields_told a b e)
  ty_told _ _ e = absurd (false≢true e)

  -- and so are lists of names with types
  fields_told : (a b : PlainFields) → same_fields a b ≡ true → a ≡ b
  fields_told ty.none ty.none e = refl
  fields_told (ty.more m a rest) (ty.more n b others) e =
      let q = both (pointwise nat_eq m n) (same_ty a b && same_fields rest others) e in
      let r = both (same_ty a b) (same_fields rest others) q.1 in
      ap (λ x. ty.more x a rest) ((bytes_decides m n).0 q.0)
      ∙ ap (λ x. ty.more n x rest) (ty_told a b r.0)
      ∙ ap (ty.more n b) (fields_told rest others r.1)
  fields_told _ _ e = absurd (false≢true e)

mutual
  -- the test finds each type the same as itself
  ty_itself : (a : PlainTy) → same_ty a a ≡ true
  ty_itself ty.null = refl
  ty_itself ty.bool = refl
  ty_itself ty.int = refl
  ty_itself ty.text = refl
  ty_itself ty.atomic = refl
  ty_itself (ty.sequence a) = ty_itself a
  ty_itself (ty.fields a) = fields_itself a
  ty_itself (ty.choice a) = fields_itself a

  -- and each list of names with types
  fields_itself : (a : PlainFields) → same_fields a a ≡ true
  fields_itself ty.none = refl
  fields_itself (ty.more m a rest) =
      and_from (pointwise nat_eq m m) (same_ty a a && same_fields rest rest)
      ((bytes_decides m m).1 refl)
      (and_from (same_ty a a) (same_fields rest rest) (ty_itself a) (fields_itself rest))

-- shapes that the test finds the same are equal
shape_told : (a b : PlainShape) → same_shape a b ≡ true → a ≡ b
shape_told (shape.rec a) (shape.rec b) e = ap shape.rec (fields_told a b e)
shape_told (shape.arr a) (shape.arr b) e = ap shape.arr (ty_told a b e)
shape_told (shape.var a) (shape.var b) e = ap shape.var (fields_told a b e)
shape_told _ _ e = absurd (false≢true e)

-- the test finds each shape the same as itself
shape_itself : (a : PlainShape) → same_shape a a ≡ true
shape_itself (shape.rec a) = fields_itself a
shape_itself (shape.arr a) = ty_itself a
shape_itself (shape.var a) = fields_itself a

-- the values of a list, back from their plain form
abbrev unlisted : PlainValues → List PlainValue
unlisted value.none = []
unlisted (value.more v vs) = v ∷ unlisted vs

-- a list of values comes back from its plain form
listed_back : (vs : List PlainValue) → unlisted (listed vs) ≡ vs
listed_back [] = refl
listed_back (v ∷ vs) = ap (λ u. v ∷ u) (listed_back vs)

-- lists of values that the test finds the same are equal
list_told : (a b : List PlainValue) → same_values (listed a) (listed b) ≡ true → a ≡ b
list_told a b e =
    sym (listed_back a) ∙ ap unlisted (values_told (listed a) (listed b) e) ∙ listed_back b

-- contents that the test finds the same are equal
content_told : (a b : PlainContent) → same_content a b ≡ true → a ≡ b
content_told (content.rec a) (content.rec b) e = ap content.rec (list_told a b e)
content_told (content.arr low a) (content.arr bound b) e =
    let q = both (int_eq low bound) (same_values (listed a) (listed b)) e in
    ap (λ x. content.arr x a) ((signed_Decides low bound).0 q.0)
    ∙ ap (content.arr bound) (list_told a b q.1)
content_told (content.var t a) (content.var u b) e =
    let q = both (t == u) (same_value a b) e in
    ap (λ x. content.var x a) (eqb-true t u q.0) ∙ ap (content.var u) (value_told a b q.1)
content_told _ _ e = absurd (false≢true e)

-- the test finds each content the same as itself
content_itself : (a : PlainContent) → same_content a a ≡ true
content_itself (content.rec a) = values_itself (listed a)
content_itself (content.arr low a) = and_from (int_eq low low) (same_values (listed a) (listed a))
    ((signed_Decides low low).1 refl) (values_itself (listed a))
content_itself (content.var t a) =
    and_from (t == t) (same_value a a) (eq-eqb t t refl) (value_itself a)

-- changes that the test finds the same are equal
change_told : (a b : PlainChange) → same_change a b ≡ true → a ≡ b
change_told (change.create a) (change.create b) e = ap change.create (content_told a b e)
change_told (change.set_field i a) (change.set_field j b) e =
    let q = both (i == j) (same_value a b) e in
    ap (λ x. change.set_field x a) (eqb-true i j q.0) ∙ ap (change.set_field j) (value_told a b q.1)
change_told (change.store i a) (change.store j b) e =
    let q = both (int_eq i j) (same_value a b) e in
    ap (λ x. change.store x a) ((signed_Decides i j).0 q.0)
    ∙ ap (change.store j) (value_told a b q.1)
change_told (change.addh a) (change.addh b) e = ap change.addh (value_told a b e)
change_told (change.addl a) (change.addl b) e = ap change.addl (value_told a b e)
change_told change.remh change.remh e = refl
change_told change.reml change.reml e = refl
change_told (change.set_low i) (change.set_low j) e = ap change.set_low ((signed_Decides i j).0 e)
change_told (change.trim i m) (change.trim j n) e =
    let q = both (int_eq i j) (int_eq m n) e in
    ap (λ x. change.trim x m) ((signed_Decides i j).0 q.0)
    ∙ ap (change.trim j) ((signed_Decides m n).0 q.1)
change_told (change.change_tag t a) (change.change_tag u b) e =
    let q = both (t == u) (same_value a b) e in
    ap (λ x. change.change_tag x a) (eqb-true t u q.0)
    ∙ ap (change.change_tag u) (value_told a b q.1)
change_told change.touch change.touch e = refl
change_told _ _ e = absurd (false≢true e)

-- the test finds each change the same as itself
change_itself : (a : PlainChange) → same_change a a ≡ true
change_itself (change.create a) = content_itself a
change_itself (change.set_field i a) =
    and_from (i == i) (same_value a a) (eq-eqb i i refl) (value_itself a)
change_itself (change.store i a) =
    and_from (int_eq i i) (same_value a a) ((signed_Decides i i).1 refl) (value_itself a)
change_itself (change.addh a) = value_itself a
change_itself (change.addl a) = value_itself a
change_itself change.remh = refl
change_itself change.reml = refl
change_itself (change.set_low i) = (signed_Decides i i).1 refl
change_itself (change.trim i m) =
    and_from (int_eq i i) (int_eq m m) ((signed_Decides i i).1 refl) ((signed_Decides m m).1 refl)
change_itself (change.change_tag t a) =
    and_from (t == t) (same_value a a) (eq-eqb t t refl) (value_itself a)
change_itself change.touch = refl

-- signals that the test finds the same are equal
signal_told : (a b : Signal) → same_signal a b ≡ true → a ≡ b
signal_told signal.Absent signal.Absent e = refl
signal_told signal.Exists signal.Exists e = refl
signal_told signal.Bounds signal.Bounds e = refl
signal_told signal.WrongTag signal.WrongTag e = refl
signal_told signal.NegativeSize signal.NegativeSize e = refl
signal_told signal.Limits signal.Limits e = refl
signal_told _ _ e = absurd (false≢true e)

-- the test finds each signal the same as itself
signal_itself : (a : Signal) → same_signal a a ≡ true
signal_itself signal.Absent = refl
signal_itself signal.Exists = refl
signal_itself signal.Bounds = refl
signal_itself signal.WrongTag = refl
signal_itself signal.NegativeSize = refl
signal_itself signal.Limits = refl

-- answers that the test finds the same are equal
answer_told : (a b : PlainAnswer) → same_answer a b ≡ true → a ≡ b
answer_told answer.done answer.done e = refl
answer_told (answer.val a) (answer.val b) e = ap answer.val (value_told a b e)
answer_told (answer.num m) (answer.num n) e = ap answer.num ((signed_Decides m n).0 e)
answer_told (answer.flag a) (answer.flag b) e = ap answer.flag ((booleans_Decides a b).0 e)
answer_told (answer.body a) (answer.body b) e = ap answer.body (content_told a b e)
answer_told (answer.signal a) (answer.signal b) e = ap answer.signal (signal_told a b e)
answer_told _ _ e = absurd (false≢true e)

-- the test finds each answer the same as itself
answer_itself : (a : PlainAnswer) → same_answer a a ≡ true
answer_itself answer.done = refl
answer_itself (answer.val a) = value_itself a
answer_itself (answer.num m) = (signed_Decides m m).1 refl
answer_itself (answer.flag a) = (booleans_Decides a a).1 refl
answer_itself (answer.body a) = content_itself a
answer_itself (answer.signal a) = signal_itself a

-- a test that holds of what is the same, and of nothing else
pub decided : {P : Type 0} (E : P → P → Bool) → ((a b : P) → E a b ≡ true → a ≡ b)
    → ((a : P) → E a a ≡ true)
    → (a b : P) → Decides (E a b) (a ≡ b)
decided E told itself a b = (told a b, λ e. subst (λ x. E a x ≡ true) e (itself a))

-- the test by cases says exactly which values are equal
pub value_decided : (a b : PlainValue) → Decides (same_value a b) (a ≡ b)
value_decided = decided same_value value_told value_itself

-- any test of which values are equal agrees with the test by cases
pub value_answered : (r : Bool) (a b : PlainValue) → (r ≡ true) ↔ (a ≡ b) → r ≡ same_value a b
value_answered r a b d = one_answer r (same_value a b) d (value_decided a b)

-- the test by cases says exactly which types are equal
pub ty_decided : (a b : PlainTy) → Decides (same_ty a b) (a ≡ b)
ty_decided = decided same_ty ty_told ty_itself

-- any test of which types are equal agrees with the test by cases
pub ty_answered : (r : Bool) (a b : PlainTy) → (r ≡ true) ↔ (a ≡ b) → r ≡ same_ty a b
ty_answered r a b d = one_answer r (same_ty a b) d (ty_decided a b)

-- the test by cases says exactly which shapes are equal
pub shape_decided : (a b : PlainShape) → Decides (same_shape a b) (a ≡ b)
shape_decided = decided same_shape shape_told shape_itself

-- any test of which shapes are equal agrees with the test by cases
pub shape_answered : (r : Bool) (a b : PlainShape) → (r ≡ true) ↔ (a ≡ b) → r ≡ same_shape a b
shape_answered r a b d = one_answer r (same_shape a b) d (shape_decided a b)

-- the test by cases says exactly which contents are equal
pub content_decided : (a b : PlainContent) → Decides (same_content a b) (a ≡ b)
content_decided = decided same_content content_told content_itself

-- any test of which contents are equal agrees with the test by cases
pub content_answered : (r : Bool) (a b : PlainContent) → (r ≡ true) ↔ (a ≡ b) → r ≡ same_content a b
content_answered r a b d = one_answer r (same_content a b) d (content_decided a b)

-- the test by cases says exactly which changes are equal
pub change_decided : (a b : PlainChange) → Decides (same_change a b) (a ≡ b)
change_decided = decided same_change change_told change_itself

-- any test of which changes are equal agrees with the test by cases
pub change_answered : (r : Bool) (a b : PlainChange) → (r ≡ true) ↔ (a ≡ b) → r ≡ same_change a b
change_answered r a b d = one_answer r (same_change a b) d (change_decided a b)

-- the test by cases says exactly which answers are equal
pub answer_decided : (a b : PlainAnswer) → Decides (same_answer a b) (a ≡ b)
answer_decided = decided same_answer answer_told answer_itself

-- any test of which answers are equal agrees with the test by cases
pub answer_answered : (r : Bool) (a b : PlainAnswer) → (r ≡ true) ↔ (a ≡ b) → r ≡ same_answer a b
answer_answered r a b d = one_answer r (same_answer a b) d (answer_decided a b)

-- a test of what is the same is reflexive, symmetric and transitive on what is said
pub said_equivalence : {K P : Type 0} (said : K → P) (E : P → P → Bool)
    → ((a b : P) → Decides (E a b) (a ≡ b))
    → IsPartialEquivalence (λ a b. E (said a) (said b))
said_equivalence said E d = record {
  symm = λ x y. one_answer (E (said x) (said y)) (E (said y) (said x)) (d (said x) (said y))
      (λ e. sym ((d (said y) (said x)).0 e), λ e. (d (said y) (said x)).1 (sym e));
  trans = λ x y z p q. (d (said x) (said z)).1 ((d (said x) (said y)).0 p
      ∙ (d (said y) (said z)).0 q);
}
