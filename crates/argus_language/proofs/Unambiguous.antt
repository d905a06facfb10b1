-- Lines spell at most one list of steps.
use Rattle.std.proofs.{lemmas.Bool.Decides.nat_tests, Common.{◌≡◌, ℕ, Bool, true, false, suc, List, [], ◌∷◌, ◌++◌, map}}
use Rattle.std.proofs.Common.{flat_map, refl, sym, ◌∙◌, ap, subst, append_assoc, arith}
use Rattle.std.specs.List.{All}
use Rattle.argus_contents.specs.Shape.{PlainShape}
use Rattle.argus_texts.specs.ShapeSpelling.{IsMakeable, shape_spelling}
use Rattle.argus_texts.proofs.ShapeForms.{one_shape}
use Rattle.argus_language.specs.{Numbered.sentences_of, Objects.PlainObjects, Script.{Declares, PlainScript, Spells}}
use Rattle.argus_language.specs.{PlainStep.{SimpleStep, PlainStep, PlainSteps}, declared.block_kind.BlockKind.BlockKind}
use Rattle.argus_language.specs.{declared.place.Place.Place, Spelled.{Sentence, closing, lines_of_part, lines_of_parts}}
use Rattle.argus_language.specs.{Spelled.sentence, Placement.{AllMayStand, MayStand, is_coenter, may_begin, may_stand}}
use Rattle.argus_language.specs.Placement.{place_in}
use Rattle.argus_language.proofs.{Deeds.one-deed, Faults.{head_same, tail_same}}
use Rattle.argus_language.specs.PlainStep as part
use Rattle.argus_language.specs.Spelled as line
use Rattle.argus_language.specs.declared.block_kind.BlockKind.TheVariants as opening
use Rattle.argus_language.specs.declared.place.Place.TheVariants as place

-- what may come behind steps at a place, that begins no step there: nothing, `end`, or the next arm
abbrev pub Ends : Place → List Sentence → Type 0
Ends p [] = Unit {0}
Ends p (line.«end» ∷ r) = Unit {0}
Ends p (line.begin (opening.Arm k) ∷ r) = is_coenter p ≡ false
Ends p (s ∷ r) = ⊥

begins-deed : (p : Place) (d : SimpleStep) (r : List Sentence) → Ends p (sentence d ∷ r) → ⊥
begins-deed p q r h = grind arith

begins-block : (p : Place) (o : BlockKind) (r : List Sentence) → may_begin o p ≡ true → Ends p (line.begin o ∷ r) → ⊥
begins-block p q r m h = grind arith

-- a step that stands there is no end
begins-step : (p : Place) (x : PlainStep) (r : List Sentence) → MayStand p x → Ends p (lines_of_part x ++ r) → ⊥
begins-step p (part.simple d) r s h = begins-deed p d r h
begins-step p (part.block o ps) r s h = begins-block p o ((lines_of_parts ps ++ closing o) ++ r) s.0 h

-- no deed stands in a coenter
no-deed : (d : SimpleStep) (b : Bool) → may_stand d (place.Coenter b) ≡ true → ⊥
no-deed p b e = grind arith

-- in a coenter each step is an arm, at which the arm before it ends
arm-ends : (b : Bool) (o : BlockKind) (r : List Sentence) → may_begin o (place.Coenter b) ≡ true
    → Ends (place.Arm b) (line.begin o ∷ r)
arm-ends b p r e = grind arith

rest-ends : (b : Bool) (r : List Sentence) → Ends (place.Coenter b) r → Ends (place.Arm b) r
rest-ends b p h = grind arith

behind-arm-ends : (b : Bool) (ps : PlainSteps) (r : List Sentence) → AllMayStand (place.Coenter b) ps → Ends
    (place.Coenter b) r → Ends (place.Arm b) (lines_of_parts ps ++ r)
behind-arm-ends b part.none r s h = rest-ends b r h
behind-arm-ends b (part.more (part.simple d) ps) r s h = absurd (no-deed d b s.0.0)
behind-arm-ends b (part.more (part.block o xs) ps) r s h =
    arm-ends b o (((lines_of_parts xs ++ closing o) ++ lines_of_parts ps) ++ r) s.0.0

-- what stands in a block ends before what is behind the block
inside-ends : (o : BlockKind) (p : Place) (ps : PlainSteps) (r : List Sentence) → may_begin o p ≡ true
    → AllMayStand p ps → Ends p r → Ends (place_in o p) (closing o ++ (lines_of_parts ps ++ r))
inside-ends p q ps r m s h = grind (arith, behind-arm-ends)

begin-same : (o q : BlockKind) → line.begin o ≡ line.begin q → o ≡ q
begin-same o q e = cc

no-begin : (d : SimpleStep) (o : BlockKind) → sentence d ≡ line.begin o → ⊥
no-begin p o e = grind arith

front-same : (c a b : List Sentence) → c ++ a ≡ c ++ b → a ≡ b
front-same [] a b e = e
front-same (x ∷ c) a b e = front-same c a b (tail_same e)

opened-out : (o : BlockKind) (xs ps : PlainSteps) (r : List Sentence)
    → ((line.begin o ∷ (lines_of_parts xs ++ closing o)) ++ lines_of_parts ps) ++ r
    ≡ line.begin o ∷ (lines_of_parts xs ++ (closing o ++ (lines_of_parts ps ++ r)))
opened-out o xs ps r = grind (arith, append_assoc)

-- Lines of steps at a place, and an end behind them, tell the steps and what is behind.
pub one-spelled : (ps qs : PlainSteps) (p : Place) (r s : List Sentence) → AllMayStand p ps → AllMayStand p qs
    → Ends p r → Ends p s → lines_of_parts ps ++ r ≡ lines_of_parts qs ++ s → (ps ≡ qs) × (r ≡ s)
one-spelled part.none part.none p r s h k f g e = (refl, e)
one-spelled part.none (part.more y qs) p r s h k f g e = absurd (begins-step p y (lines_of_parts qs ++ s) k.0
    (subst (Ends p) (e ∙ append_assoc (lines_of_part y) (lines_of_parts qs) s) f))
one-spelled (part.more x ps) part.none p r s h k f g e = absurd (begins-step p x (lines_of_parts ps ++ r) h.0
    (subst (Ends p) (sym e ∙ append_assoc (lines_of_part x) (lines_of_parts ps) r) g))
one-spelled (part.more (part.simple d) ps) (part.more (part.simple c) qs) p r s h k f g e =
    let same = one-deed d c h.0.1 k.0.1 (head_same e) in
    let rest = one-spelled ps qs p r s h.1 k.1 f g (tail_same e) in
    (λ j. part.more (part.simple (same j)) (rest.0 j), rest.1)
one-spelled (part.more (part.simple d) ps) (part.more (part.block o ys) qs) p r s h k f g e =
    absurd (no-begin d o (head_same e))
one-spelled (part.more (part.block o xs) ps) (part.more (part.simple d) qs) p r s h k f g e =
    absurd (no-begin d o (sym (head_same e)))
one-spelled (part.more (part.block o xs) ps) (part.more (part.block q ys) qs) p r s h k f g e = grind (
  arith,
  nat_tests,
  opened-out,
  begin-same,
  head_same,
  tail_same,
  one-spelled xs ys (place_in o p) (closing
      o ++ (lines_of_parts ps ++ r)) (closing o ++ (lines_of_parts qs ++ s)) h.0.1,
  inside-ends,
  one-spelled ps qs p r s h.1 k.1 f g,
  front-same,
)

each-shape : (x y : PlainShape) → IsMakeable x → IsMakeable y → shape_spelling x ≡ shape_spelling y → x ≡ y
each-shape x y h k e = (one_shape x y [] [] h.named k.named (ap (λ t. t ++ []) e)).0

front-makeable : (x : PlainShape) (xs : List PlainShape) → All IsMakeable (x ∷ xs) → IsMakeable x
front-makeable x xs h = h 0 x (omega arith)

rest-makeable : (x : PlainShape) (xs : List PlainShape) → All IsMakeable (x ∷ xs) → All IsMakeable xs
rest-makeable x xs h = λ k d l. h (suc k) d (omega arith)

one-shapes : (xs ys : List PlainShape) → All IsMakeable xs → All IsMakeable ys
    → map shape_spelling xs ≡ map shape_spelling ys → xs ≡ ys
one-shapes [] [] h k e = refl
one-shapes (x ∷ xs) (y ∷ ys) h k e =
    let first = each-shape x y (front-makeable x xs h) (front-makeable y ys k) (head_same e) in
    let others = one-shapes xs ys (rest-makeable x xs h) (rest-makeable y ys k) (tail_same e) in
    λ j. first j ∷ others j
one-shapes xs ys h k e = absurd (cc)

-- lines declare one list of objects at most
one-list : (lines : List (List ℕ)) (a b : PlainObjects) → Declares lines a → Declares lines b → a ≡ b
one-list lines a b h k =
    let names = sym h.names ∙ k.names in
    let shapes = one-shapes a.shapes b.shapes h.makeable k.makeable (sym h.shapes ∙ k.shapes) in
    λ j. record { names = names j; shapes = shapes j }

-- lines spell one script at most
pub one-script : (lines : List (List ℕ)) (a b : PlainScript) → Spells lines a → Spells lines b → a ≡ b
one-script lines a b h k =
    let objects = one-list lines a.objects b.objects h.declares k.declares in
    let said = sym h.sentences ∙ ap (λ os. flat_map (sentences_of os) lines) objects ∙ k.sentences in
    let parts = (one-spelled a.parts b.parts place.Top [] [] h.stand k.stand tt tt (ap (λ t. t ++ []) said)).0 in
    λ j. record { objects = objects j; parts = parts j }
