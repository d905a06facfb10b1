-- The proof of what a cell tells.
use Rattle.std.proofs.{Common.{List, [], ap, arith, refl, ℕ, ◌-◌, ◌∙◌, ◌∷◌, ◌≡◌}, lemmas.Bool.Decides.nat_tests}
use Rattle.std.specs.Prelude.{Option, map}
use Rattle.argus_actions.specs.declared.action_id.ActionId.{ActionId}
use Rattle.argus_contents.specs.Content.{PlainContent}
use Rattle.argus_journal.{proofs.Legal.lawful, specs.{Events.history, Numbering.all_in_program}}
use Rattle.argus_journal.specs.JournalFacts.{visible_to}
use Rattle.argus_refinement.proofs.{CellHolders.may_read_is, CellOrder.{stack_is, told_is}, CellSeen.may_write_is}
use Rattle.argus_refinement.{proofs.CellSeen.visible_is, specs.CellRefinement.history_numbers}
use Rattle.argus_refinement.proofs.cell_laws.a_cell_refines_the_history.Goals as goal

-- a number up and down again
down : (ids : List ActionId) → map (λ (x : ActionId). x.0) ids ≡ all_in_program (history_numbers ids)
down [] = refl
down (x ∷ ids) = grind (arith, nat_tests, down ids)

pub returns : goal.returns
returns c = record {
  readers = λ s j t o cell k. down cell.readers ∙ ap all_in_program k.readers;
  versions = λ s j t o cell l k.
      told_is s (history s j) (lawful s j l) o cell.versions k.seen
      ∙ ap (λ ns. map {B = ℕ × Option PlainContent} (λ a. (a, visible_to s j a o)) (map (λ x. x - 1) ns))
      (stack_is s (history s j) (lawful s j l) o t cell k);
  base = λ s j t o cell k. k.base;
  may_read = λ s j t o cell a l is k live. may_read_is s (history s j) (lawful s j l) t is o cell k a live;
  may_write = λ s j t o cell a l is k live. may_write_is s (history s j) (lawful s j l) t is o cell k a live;
  seen = λ s j t o cell a l is k live may. visible_is s (history s j) (lawful s j l) t is o cell k a live may;
}
