-- The end of a script: no line is left.
use Rattle.std.proofs.Common.{◌≡◌, ℕ, ◌≤◌, List, [], ◌∷◌, length, take, drop, flat_map, Some, Result, IfOk, IfErr, OnOk}
use Rattle.std.proofs.{Common.{refl, sym, ◌∙◌, ap, subst, arith, inr}, lemmas.List.append-nil}
use Rattle.argus_language.specs.Fault.{FineBefore, IsFaultOf, NoFault, Position, Unclosed, position_behind}
use Rattle.argus_language.specs.{Lines.lines_of, Numbered.sentences_of, Objects.{PlainObjects, no_objects, with_more}}
use Rattle.argus_language.specs.{Parsed.{IsUnclosedAt, OnScriptFault, innermost_line}, Reading.{IsSound, lines_so_far}}
use Rattle.argus_language.specs.{Script.{Declares, Spells, plain_script}, declared.level.Level.Level}
use Rattle.argus_language.specs.declared.{open_block.OpenBlock.OpenBlock, parse_error.ParseError.ParseError}
use Rattle.argus_language.specs.declared.{script.Script.Script, step.Step.Step}
use Rattle.argus_language.proofs.Faults.{ToldOf, all-taken, fine-all}
use Rattle.argus_language.specs.declared.parse_error.ParseError.TheVariants as error

pub no_lines : (bs : List ℕ) → length bs ≤ 0 → lines_of bs ≡ []
no_lines [] h = refl
no_lines (b ∷ bs) h = absurd (omega arith)

-- three facts of an answer give a fourth
pub ok_thrice : {T E : Type 0} (r : Result T E) (O : Type 0) (P Q R : T → Type 0)
    → ((t : T) → O → P t → Q t → R t) → OnOk r O → IfOk r P → IfOk r Q → IfOk r R
ok_thrice p q r s t f g h k = grind arith

pub ok_more : {T E : Type 0} (r : Result T E) (P Q : Type 0) → (P → Q) → OnOk r P → OnOk r Q
ok_more p q r f h = grind arith

pub err_more : {T E : Type 0} (r : Result T E) (P Q : E → Type 0) → ((e : E) → P e → Q e) → IfErr r P → IfErr r Q
err_more p q r f h = grind arith

none_more : (os : PlainObjects) → with_more os no_objects ≡ os
none_more os = λ j. record { names = append-nil os.names j; shapes = append-nil os.shapes j }

module _ (lines : List (List ℕ)) (i : ℕ) (rest : drop i lines ≡ []) where
  pub end_spells : (objects : PlainObjects) (blocks : List OpenBlock) (steps : List Step) (script : Script)
      → ToldOf (take i lines) objects (lines_so_far blocks steps) → Declares (take i lines) objects
      → IsSound blocks steps → blocks ≡ [] → (plain_script script).objects ≡ objects → script.steps.items ≡ steps
      → Spells lines (plain_script script)
  end_spells objects blocks steps script said declares sound none e f =
      let all = all-taken lines i rest in
      record {
        declares = subst (λ ls. Declares ls (plain_script script).objects) all
            (subst (λ os. Declares (take i lines) os) (sym e) declares);
        sentences = ap (λ os. flat_map (sentences_of os) lines) e ∙ ap (λ ls. flat_map (sentences_of objects) ls)
            (sym all) ∙ ap (λ os. flat_map (sentences_of os) (take i lines)) (sym (none_more objects)) ∙ said no_objects
            ∙ ap (λ bs. lines_so_far bs steps) none ∙ ap (lines_so_far []) (sym f);
        stand = (subst (λ xs. IsSound [] xs) (sym f) (subst (λ bs. IsSound bs steps) none sound)).stand;
      }

  pub end_fine : (p : Position) (levels : List Level) → position_behind (take i lines) ≡ p → p.levels ≡ levels
      → levels ≡ [] → FineBefore lines i → NoFault lines
  end_fine p levels position e none before = record {
    fine = fine-all lines i rest before;
    closed = ap (λ ls. (position_behind ls).levels) (sym (all-taken lines i rest)) ∙ ap (λ q. q.levels) position ∙ e
        ∙ none;
  }

  unclosed-at : (levels : List Level) (number : ℕ) → (position_behind lines).levels ≡ levels
      → innermost_line levels ≡ Some number → FineBefore lines (length lines) → Unclosed lines number
  unclosed-at p number e h before = grind arith

  pub end_unclosed : (p : Position) (levels : List Level) (e : ParseError) → position_behind (take i lines) ≡ p
      → p.levels ≡ levels → FineBefore lines i → IsUnclosedAt levels e → OnScriptFault e (IsFaultOf lines)
  end_unclosed p levels (error.Fault fault) position same before h = inr (
    h.0,
    unclosed-at levels fault.line (ap (λ ls. (position_behind ls).levels) (sym (all-taken lines i rest))
        ∙ ap (λ q. q.levels) position ∙ same) h.1 (fine-all lines i rest before),
  )
  end_unclosed p levels error.Memory position same before h = absurd h
