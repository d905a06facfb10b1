-- One more line of a script.
use Rattle.std.proofs.Common.{◌≡◌, ℕ, ◌+◌, ◌<◌, List, [], ◌∷◌, ◌++◌, length, map, take, drop, get_or, slice_get, Some}
use Rattle.std.proofs.Common.{refl, sym, ◌∙◌, ap, subst, arith, below_more, flat_map, add-one, drop-cons, length-drop}
use Rattle.std.proofs.{Common.{inl, None, append_assoc, take-append-drop}, lemmas.Option.slice_get-get_or}
use Rattle.std.proofs.lemmas.{List.{take_more, append-nil, take_all}, Grind.{fold-append, flat_map-append}}
use Rattle.argus_texts.specs.ShapeSpelling.{shape_spelling}
use Rattle.argus_language.specs.{Command.command_of, Fault.{position_at, position_behind, FineAt, FineBefore, HasFault}}
use Rattle.argus_language.specs.{Fault.{IsFine, IsFaultOf, Position, name_fault}, Levels.levels_after, Lines.line_text}
use Rattle.argus_language.specs.{Numbered.sentences_of, Spelled.Sentence, Objects.{AllMakeable, PlainObjects}}
use Rattle.argus_language.specs.{Objects.with_more, declared.{level.Level.Level, fault_kind.FaultKind.FaultKind}}
use Rattle.argus_language.specs.Script.{Declares, name_declared, shape_declared}
use Rattle.argus_language.proofs.Numbers.{told-grows}

-- the line at i, where the lines from i on begin with it
pub record Here (lines : List (List ℕ)) (i : ℕ) (line : List ℕ) (more : List (List ℕ)) : Type 0 where
  pub here : slice_get lines i ≡ Some line
  pub front : take (i + 1) lines ≡ take i lines ++ line ∷ []
  pub left : drop (i + 1) lines ≡ more

pub head_same : {A : Type 0} {x y : A} {xs ys : List A} → x ∷ xs ≡ y ∷ ys → x ≡ y
head_same e = cc

pub tail_same : {A : Type 0} {x y : A} {xs ys : List A} → x ∷ xs ≡ y ∷ ys → xs ≡ ys
tail_same e = cc

pub here_at : (lines : List (List ℕ)) (i : ℕ) (line : List ℕ) (more : List (List ℕ)) → drop i lines ≡ line ∷ more
    → Here lines i line more
here_at lines i line more e =
    let within : i < length lines = omega (arith, length-drop i lines, ap length e) in
    let split : drop i lines ≡ get_or lines i line ∷ drop (i + 1) lines = rw (add-one, drop-cons lines i line) refl in
    let both = sym split ∙ e in
    let first = head_same both in
    record {
      here = slice_get-get_or lines i line within ∙ ap Some first;
      front = take_more lines i line within ∙ ap (λ x. take i lines ++ x ∷ []) first;
      left = tail_same both;
    }

position_same : (a b c d : ℕ) (xs ys : List Level) → a ≡ b → c ≡ d → xs ≡ ys → position_at a c xs ≡ position_at b d ys
position_same a b c d xs ys e f g = λ j. record { lines = e j; bytes = f j; levels = g j }

pub position-more : (lines : List (List ℕ)) (i before after : ℕ) (line : List ℕ) (levels new : List Level)
    → take (i + 1) lines ≡ take i lines ++ line ∷ [] → position_behind (take i lines) ≡ position_at i before levels
    → before + length line ≡ after → new ≡ levels_after (command_of (line_text line)) (i + 1) levels
    → position_behind (take (i + 1) lines) ≡ position_at (i + 1) after new
position-more lines i before after line levels new front e f g = grind (arith, fold-append, position_same)

flat-more : {B : Type 0} (f : List ℕ → List B) (lines : List (List ℕ)) (i : ℕ) (line : List ℕ)
    → take (i + 1) lines ≡ take i lines ++ line ∷ []
    → flat_map f (take (i + 1) lines) ≡ flat_map f (take i lines) ++ f line
flat-more f lines i line front = ap (flat_map f) front ∙ flat_map-append f (take i lines) (line ∷ [])
    ∙ ap (λ t. flat_map f (take i lines) ++ t) (append-nil (f line))

pub declares-more : (lines : List (List ℕ)) (i : ℕ) (line : List ℕ) (old new : PlainObjects)
    → take (i + 1) lines ≡ take i lines ++ line ∷ []
    → Declares (take i lines) old → new.names ≡ old.names ++ name_declared (command_of (line_text line))
    → map shape_spelling new.shapes ≡ map shape_spelling old.shapes ++ shape_declared (command_of (line_text line))
    → (AllMakeable old → AllMakeable new) → Declares (take (i + 1) lines) new
declares-more lines i line old new front e f g h = record {
  names = flat-more (λ line. name_declared (command_of (line_text line))) lines i line front
      ∙ ap (λ t. t ++ name_declared (command_of (line_text line))) e.names ∙ sym f;
  shapes = flat-more (λ line. shape_declared (command_of (line_text line))) lines i line front
      ∙ ap (λ t. t ++ shape_declared (command_of (line_text line))) e.shapes ∙ sym g;
  makeable = h e.makeable;
}

-- all that was told of the objects so far is told of more of them, too
abbrev pub ToldOf : List (List ℕ) → PlainObjects → List Sentence → Type 0
ToldOf lines os sentences = (more : PlainObjects) → flat_map (sentences_of (with_more os more)) lines ≡ sentences

module _ (lines : List (List ℕ)) (i : ℕ) (line : List ℕ) (old new : PlainObjects) (so-far after : List Sentence)
    (front : take (i + 1) lines ≡ take i lines ++ line ∷ [])
    (names : new.names ≡ old.names ++ name_declared (command_of (line_text line)))
    (kept : take (length old.shapes) new.shapes ≡ old.shapes)
    (fine : name_fault (command_of (line_text line)) old ≡ None) (lines-after : after ≡ so-far
    ++ sentences_of old line) where
  added : PlainObjects
  added = record { names = name_declared (command_of (line_text line)); shapes = drop (length old.shapes) new.shapes }

  shapes : new.shapes ≡ old.shapes ++ drop (length old.shapes) new.shapes
  shapes = sym (take-append-drop (length old.shapes) new.shapes)
      ∙ ap (λ t. t ++ drop (length old.shapes) new.shapes) kept

  extended : (more : PlainObjects) → with_more new more ≡ with_more old (with_more added more)
  unfolding added
  extended more = grind (arith, append_assoc, shapes)

  pub told-more : ToldOf (take i lines) old so-far → ToldOf (take (i + 1) lines) new after
  told-more told-so-far = λ more. flat-more (sentences_of (with_more new more)) lines i line front
      ∙ ap (λ os. flat_map (sentences_of os) (take i lines) ++ sentences_of os line) (extended more)
      ∙ ap (λ t. t ++ sentences_of (with_more old (with_more added more)) line) (told-so-far (with_more added more))
      ∙ ap (λ t. so-far ++ t) (told-grows old (with_more added more) line fine) ∙ sym lines-after

pub fine-more : (lines : List (List ℕ)) (i : ℕ) (line : List ℕ) (objects : PlainObjects) (p : Position)
    → slice_get lines i ≡ Some line
    → Declares (take i lines) objects → position_behind (take i lines) ≡ p → IsFine p objects line → FineBefore lines i
    → FineBefore lines (i + 1)
fine-more lines i line objects p here declared e fine before = below_more (FineAt lines) i before (record {
  line = line;
  here = here;
  objects = objects;
  declared = declared;
  fine = subst (λ q. IsFine q objects line) (sym e) fine;
})

pub first-fault : (lines : List (List ℕ)) (i : ℕ) (line : List ℕ) (objects : PlainObjects) (p : Position)
    (k : FaultKind) → slice_get lines i ≡ Some line
    → Declares (take i lines) objects → position_behind (take i lines) ≡ p → HasFault p objects line k
    → FineBefore lines i → IsFaultOf lines (record { line = i + 1; kind = k })
first-fault lines i line objects p k here declared e fault before = inl (
  i,
  refl,
  record {
    line = line;
    here = here;
    objects = objects;
    declared = declared;
    fault = subst (λ q. HasFault q objects line k) (sym e) fault;
    before = before;
  },
)

-- no line is left
pub all-taken : (lines : List (List ℕ)) (i : ℕ) → drop i lines ≡ [] → take i lines ≡ lines
all-taken lines i e = take_all i lines (omega (arith, length-drop i lines, ap length e))

pub fine-all : (lines : List (List ℕ)) (i : ℕ) → drop i lines ≡ [] → FineBefore lines i
    → FineBefore lines (length lines)
fine-all lines i e before = λ k h. before k (omega (arith, length-drop i lines, ap length e))
