-- Steps and blocks of a script that is being read, with one more or one less.
use Rattle.std.proofs.Common.{◌≡◌, Bool, true, cond, List, [], ◌∷◌, ◌++◌, flat_map, map, reverse, Vec, sym, ◌∙◌, ap}
use Rattle.std.proofs.{Common.{subst, append_assoc, rules, arith, Result, OnOk}, lemmas.List.Elements.All-append}
use Rattle.std.proofs.lemmas.{Grind.flat_map-append, List.{append-nil, reverse-append}}
use Rattle.std.specs.{List.All, declared.alloc.Global.Global}
use Rattle.argus_memory.specs.declared.limited.Limited.{Limited}
use Rattle.argus_language.specs.{Levels.{behind_arm, is_arm, place_of}, Objects.{AllMakeable, PlainObjects}}
use Rattle.argus_language.specs.{PlainStep.{block, plain_step, plain_steps}, declared.open_block.OpenBlock.OpenBlock}
use Rattle.argus_language.specs.declared.{place.Place.Place, block_kind.BlockKind.BlockKind, step.Step.Step}
use Rattle.argus_language.specs.Reading.{AllBegan, IsSound, closing_at, front, is_arm_line, levels_of, lines_so_far}
use Rattle.argus_language.specs.Spelled.{Sentence, begin, closing, lines_of_part, lines_of_parts}
use Rattle.argus_language.specs.Placement.{AllMayStand, MayStand, may_begin, place_in}
use Rattle.argus_contents.specs.Shape.{PlainShape}
use Rattle.argus_texts.specs.ShapeSpelling.{IsMakeable}
use Rattle.argus_language.specs.Spelled as sentence
use Rattle.argus_language.specs.declared.block_kind.BlockKind.TheVariants as opening
use Rattle.argus_language.specs.declared.place.Place.TheVariants as place
use Rattle.argus_language.specs.declared.step.Step as S

pub steps-push : (xs : List Step) (x : Step)
    → lines_of_parts (plain_steps (xs ++ x ∷ [])) ≡ lines_of_parts (plain_steps xs) ++ lines_of_part (plain_step x)
steps-push [] x = append-nil (lines_of_part (plain_step x))
steps-push (y ∷ ys) x = ap (λ t. lines_of_part (plain_step y) ++ t) (steps-push ys x)
    ∙ sym (append_assoc (lines_of_part (plain_step y)) (lines_of_parts (plain_steps ys)) (lines_of_part (plain_step x)))

pub stand-push : (p : Place) (xs : List Step) (x : Step) → AllMayStand p (plain_steps xs) → MayStand p (plain_step x)
    → AllMayStand p (plain_steps (xs ++ x ∷ []))
stand-push p [] x h s = (s, tt)
stand-push p (y ∷ ys) x h s = (h.0, stand-push p ys x h.1 s)

-- a step more
pub push-lines : (blocks : List OpenBlock) (xs ys : List Step) (x : Step) → ys ≡ xs ++ x ∷ []
    → lines_so_far blocks ys ≡ lines_so_far blocks xs ++ lines_of_part (plain_step x)
push-lines blocks xs ys x e = ap (lines_so_far blocks) e ∙ ap (λ t. flat_map front blocks ++ t) (steps-push xs x)
    ∙ sym (append_assoc (flat_map front blocks) (lines_of_parts (plain_steps xs)) (lines_of_part (plain_step x)))

pub push-sound : (blocks : List OpenBlock) (xs ys : List Step) (x : Step) → ys ≡ xs ++ x ∷ [] → IsSound blocks xs
    → MayStand (place_of (levels_of blocks)) (plain_step x) → IsSound blocks ys
push-sound blocks xs ys x e h s = record {
  began = h.began;
  stand = subst (λ zs. AllMayStand (place_of (levels_of blocks)) (plain_steps zs)) (sym e)
      (stand-push (place_of (levels_of blocks)) xs x h.stand s);
}

pub fronts-push : (blocks : List OpenBlock) (b : OpenBlock)
    → flat_map front (blocks ++ b ∷ []) ≡ flat_map front blocks ++ front b
fronts-push blocks b = flat_map-append front blocks (b ∷ [])
    ∙ ap (λ t. flat_map front blocks ++ t) (append-nil (front b))

pub levels-push : (blocks more : List OpenBlock) (b : OpenBlock) → more ≡ blocks ++ b ∷ []
    → levels_of more ≡ b.level ∷ levels_of blocks
levels-push blocks more b e = ap levels_of e ∙ ap (map (λ x. x.level)) (reverse-append blocks (b ∷ []))

plain-Block : (o : BlockKind) (v : Vec Step (Limited Global)) → plain_step (S.Block o v) ≡ block o (plain_steps v.items)
plain-Block o v = search (rules, S.the_lemmas)

regrouped : (a b c d e : List Sentence) → a ++ (b ++ (c ++ (d ++ e))) ≡ ((a ++ (b ++ c)) ++ d) ++ e
regrouped a b c d e = simp append_assoc

closing-arm : (o : BlockKind) → closing o ≡ cond (is_arm_line o) [] (sentence.«end» ∷ [])
closing-arm p = grind arith

-- the innermost block ends
module _ (blocks left : List OpenBlock) (b : OpenBlock) (steps : Vec Step (Limited Global)) (now : List Step)
    (e : blocks ≡ left ++ b ∷ []) (h : IsSound blocks steps.items)
    (f : now ≡ b.before.items ++ S.Block b.opening steps ∷ []) where
  began : AllBegan (b ∷ reverse left)
  began = subst AllBegan (ap reverse e ∙ reverse-append left (b ∷ [])) h.began

  within : AllMayStand b.level.place (plain_steps steps.items)
  within = subst (λ ls. AllMayStand (place_of ls) (plain_steps steps.items)) (levels-push left blocks b e) h.stand

  pub close-lines : lines_so_far left now ≡ lines_so_far blocks steps.items ++ closing_at (place_of (levels_of blocks))
  close-lines =
      let F = flat_map front left in
      let B = lines_of_parts (plain_steps b.before.items) in
      let S' = lines_of_parts (plain_steps steps.items) in
      push-lines left b.before.items now (S.Block b.opening steps) f
      ∙ ap (λ t. (F ++ B) ++ t) (ap lines_of_part (plain-Block b.opening steps))
      ∙ append_assoc F B (begin b.opening ∷ (S' ++ closing b.opening))
      ∙ regrouped F B (begin b.opening ∷ []) S' (closing b.opening)
      ∙ ap (λ t. (t ++ S') ++ closing b.opening) (sym (ap (flat_map front) e ∙ fronts-push left b))
      ∙ ap (λ t. lines_so_far blocks steps.items ++ t) (closing-arm b.opening
      ∙ ap (λ t. cond t [] (sentence.«end» ∷ [])) (sym began.0.arm
      ∙ ap (λ ls. is_arm (place_of ls)) (sym (levels-push left blocks b e))))

  pub close-sound : IsSound left now
  close-sound = grind (arith, push-sound, began, plain-Block, within)

arm-in : (o : BlockKind) (p : Place) (b : Bool) → may_begin o p ≡ true → place_in o p ≡ place.Arm b → p
    ≡ place.Coenter b
arm-in p q b may e = grind arith

-- around an arm is its coenter
pub behind-arm : (bs : List OpenBlock) (b : Bool) → AllBegan bs → place_of (map (λ x. x.level) bs) ≡ place.Arm b
    → place_of (behind_arm (map (λ x. x.level) bs)) ≡ place.Coenter b
behind-arm [] b h e = absurd (cc)
behind-arm (x ∷ xs) b h e = grind (arith, arm-in)

made-alone : (shape : PlainShape) → IsMakeable shape → All IsMakeable (shape ∷ [])
made-alone shape h p d l = grind arith

-- a shape more that can be made
pub makeable-more : (old new : PlainObjects) (shape : PlainShape) → new.shapes ≡ old.shapes ++ shape ∷ []
    → IsMakeable shape → AllMakeable old → AllMakeable new
makeable-more old new shape e one h =
    subst (All IsMakeable) (sym e) (All-append IsMakeable old.shapes (shape ∷ []) h (made-alone shape one))

-- what holds anyway holds on Ok
pub on-ok : {T E : Type 0} (r : Result T E) (P : Type 0) → P → OnOk r P
on-ok p q h = grind arith
