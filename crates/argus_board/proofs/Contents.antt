-- What effects leave in a list of contents is what their table says.
use Rattle.std.proofs.Common.{Bool, List, None, Option, [], ap, arith, false, get_or, if◌then◌else◌, length}
use Rattle.std.proofs.Common.{length-append, map, max, refl, replicate, set, suc, sym, take, true, zero, ℕ, ◌++◌, ◌+◌}
use Rattle.std.proofs.{Common.{◌-◌, ◌<◌, ◌==◌, ◌∙◌, ◌∷◌, ◌≡◌, ◌≢◌, ◌≤◌}, lemmas.Bool.Decides.nat_tests}
use Rattle.std.proofs.lemmas.List.{get_or-set_other, get_or-set_same, length-map, length-replicate, map-append, map-set}
use Rattle.std.proofs.lemmas.List.{take_more}
use Rattle.std.specs.Ordering.{nat_cmp, ord_max}
use lib.ListN.{length-set}
use Rattle.argus_contents.specs.{Content.{PlainContent, plain_option}, declared.content.Content.Content}
use Rattle.argus_contents.specs.{Effect.{Effect, plain_effect}, declared.obj_id.ObjId.ObjId}
use Rattle.argus_model.proofs.Effects.{table-append}
use Rattle.argus_model.specs.Effects.{content_by, table}
use Rattle.argus_board.specs.Effects.{IsTableOf, content_of_object, contents_after, needed, overwritten, padded}
use Rattle.argus_board.specs.Effects.{plain_contents, written}

abbrev Contents : Type 0
Contents = List (Option PlainContent)

-- absent objects at the end change nothing
nothing_there : (n o : ℕ) → content_of_object (replicate n None) o ≡ content_of_object [] o
nothing_there zero o = refl
nothing_there (suc n) zero = refl
nothing_there (suc n) (suc o) = nothing_there n o

at_padding : (xs : Contents) (n o : ℕ) → content_of_object (xs ++ replicate n None) o ≡ content_of_object xs o
at_padding [] n o = nothing_there n o
at_padding (x ∷ xs) n zero = refl
at_padding (x ∷ xs) n (suc o) = at_padding xs n o

pub long_enough : (xs : Contents) (n : ℕ) → n ≤ length (padded xs n)
long_enough xs n =
    omega (
      arith,
      length-append xs (replicate (n - length xs) None),
      length-replicate {A = Option PlainContent}
          (n - length xs) None,
    )

pub as_long : (xs : Contents) (e : Effect) → length (written xs e) ≡ length xs
as_long xs [] = refl
as_long xs (p ∷ e) = length-set (written xs e) p.0 p.1 ∙ as_long xs e

at_set : (b : Bool) (ys : Contents) (i o : ℕ) (c : Option PlainContent) → (i == o) ≡ b → i < length ys
    → content_of_object (set ys i c) o ≡ (if b then c else content_of_object ys o)
at_set true ys i o c is low =
    let same : i ≡ o = grind (arith, nat_tests) in
    ap (λ k. content_of_object (set ys i c) k) (sym same) ∙ get_or-set_same ys i c None low
at_set false ys i o c is low =
    let other : o ≢ i = grind (arith, nat_tests) in
    get_or-set_other ys i o c None other

-- the first pair of an object counts
at_written : (xs : Contents) (e : Effect) (o : ℕ) → needed e ≤ length xs
    → content_of_object (written xs e) o ≡ content_by e o (content_of_object xs o)
at_written xs [] o low = refl
at_written xs (p ∷ e) o low =
    at_set (p.0 == o) (written xs e) p.0 o p.1 refl (omega (arith, low, as_long xs e))
    ∙ ap (λ c. if p.0 == o then p.1 else c) (at_written xs e o (omega (arith, low)))

at_overwritten : (xs : Contents) (e : Effect) (o : ℕ)
    → content_of_object (overwritten xs e) o ≡ content_by e o (content_of_object xs o)
at_overwritten xs e o =
    at_written (padded xs (needed e)) e o (long_enough xs (needed e))
    ∙ ap (content_by e o) (at_padding xs (needed e - length xs) o)

at_left : (opening : ℕ → Option PlainContent) (xs : Contents) (l : List Effect)
    → ((o : ℕ) → content_of_object xs o ≡ opening o)
    → (o : ℕ) → content_of_object (contents_after xs l) o ≡ table opening l o
at_left opening xs [] is o = is o
at_left opening xs (e ∷ l) is o =
    at_left (λ x. content_by e x (opening x)) (overwritten xs e) l
    (λ x. at_overwritten xs e x ∙ ap (content_by e x) (is x)) o

-- what later effects leave
pub leads_on : (opening : ℕ → Option PlainContent) (before later : List Effect) (first : Contents)
    → IsTableOf opening before first
    → IsTableOf opening (before ++ later) (contents_after first later)
leads_on opening before later first is o =
    at_left (table opening before) first later is o ∙ sym (table-append opening before later o)

-- what was copied out of the list is what the table says
pub looked_up : (opening : ℕ → Option PlainContent) (before later : List Effect) (first xs : Contents)
    → IsTableOf opening before first → xs ≡ contents_after first later → (objects : List ObjId)
    → map (λ o. content_of_object xs o.0) objects ≡ map (λ o. table opening (before ++ later) o.0) objects
looked_up opening before later first xs leads is [] = refl
looked_up opening before later first xs leads is (o ∷ objects) =
    ap (λ c. c ∷ map (λ x. content_of_object xs x.0) objects)
    (ap (λ z. content_of_object z o.0) is ∙ leads_on opening before later first leads o.0)
    ∙ ap (λ cs. table opening (before ++ later) o.0 ∷ cs) (looked_up opening before later first xs leads is objects)

-- a list that is written from its end
pub written_last : (xs : Contents) (e : Effect) (p : ℕ × Option PlainContent)
    → written xs (e ++ p ∷ []) ≡ written (set xs p.0 p.1) e
written_last xs [] p = refl
written_last xs (q ∷ e) p = ap (λ ys. set ys q.0 q.1) (written_last xs e p)

pub needed_last : (e : Effect) (p : ℕ × Option PlainContent) → needed (e ++ p ∷ []) ≡ max (needed e) (p.0 + 1)
needed_last [] p = omega arith
needed_last (q ∷ e) p = omega (arith, needed_last e p)

-- one pair more
pub needed_more : (pairs : List (ObjId × Option Content)) (i : ℕ) (pair d : ObjId × Option Content) → i < length pairs
    → pair ≡ get_or pairs i d
    → needed (plain_effect (take (i + 1) pairs)) ≡ max (needed (plain_effect (take i pairs))) (pair.0.0 + 1)
needed_more pairs i pair d low is =
    ap (λ z. needed (plain_effect z)) (take_more pairs i d low)
    ∙ ap needed (map-append said (take i pairs) (get_or pairs i d ∷ []))
    ∙ needed_last (plain_effect (take i pairs)) (said (get_or pairs i d))
    ∙ ap (λ (p : ObjId × Option Content). max (needed (plain_effect (take i pairs))) (p.0.0 + 1)) (sym is)
  where
    said : ObjId × Option Content → ℕ × Option PlainContent
    said p = (p.0.0, plain_option p.1)

-- absent objects were put behind these
pub pad_is : (xs ys : List (Option Content)) (n k : ℕ) → ys ≡ xs ++ replicate k None → k ≡ n - length xs
    → plain_contents ys ≡ padded (plain_contents xs) n
pad_is xs ys n k is many =
    ap plain_contents is ∙ map-append plain_option xs (replicate k None)
    ∙ ap (λ z. plain_contents xs ++ z) (absent k)
    ∙ ap (λ m. plain_contents xs ++ replicate m None) (many ∙ ap (λ m. n - m) (sym (length-map xs plain_option)))
  where
    absent : (k : ℕ) → plain_contents (replicate k None) ≡ replicate k None
    absent zero = refl
    absent (suc k) = ap (λ z. None ∷ z) (absent k)

-- the last pair of an effect is written, and is left out from here on
pub write_last : (xs ys : List (Option Content)) (old new : List (ObjId × Option Content)) (o : ObjId)
    (c : Option Content)
    → old ≡ new ++ (o, c) ∷ [] → ys ≡ set xs o.0 c
    → written (plain_contents ys) (plain_effect new) ≡ written (plain_contents xs) (plain_effect old)
write_last xs ys old new o c is put =
    ap (λ z. written (plain_contents z) (plain_effect new)) put
    ∙ ap (λ z. written z (plain_effect new)) (map-set plain_option xs o.0 c)
    ∙ sym (written_last (plain_contents xs) (plain_effect new) (o.0, plain_option c))
    ∙ ap (written (plain_contents xs)) (sym (map-append said new ((o, c) ∷ [])) ∙ ap plain_effect (sym is))
  where
    said : ObjId × Option Content → ℕ × Option PlainContent
    said p = (p.0.0, plain_option p.1)

pub last_is_needed : (old new : List (ObjId × Option Content)) (o : ObjId) (c : Option Content)
    → old ≡ new ++ (o, c) ∷ []
    → needed (plain_effect old) ≡ max (needed (plain_effect new)) (o.0 + 1)
last_is_needed old new o c is =
    ap (λ z. needed (plain_effect z)) is ∙ ap needed (map-append said new ((o, c) ∷ []))
    ∙ needed_last (plain_effect new) (o.0, plain_option c)
  where
    said : ObjId × Option Content → ℕ × Option PlainContent
    said p = (p.0.0, plain_option p.1)

pub larger_is : (a b : ℕ) → ord_max nat_cmp a b ≡ max a b
larger_is a b = grind (arith, nat_tests)
