-- The proof that each move of a cell is an event.
use Rattle.std.specs.Prelude.{◌+◌}
use Rattle.argus_actions.specs.Tree.{after_begin, after_commit}
use Rattle.argus_journal.{proofs.NextEntry.by_event, specs.Events.history}
use Rattle.argus_refinement.proofs.{CellAborts.ended_cell, CellAccesses.{aside_cell, read_cell, written_cell}}
use Rattle.argus_refinement.proofs.{CellBegins.begin_cell, CellCommits.{sub_cell, top_cell}}
use Rattle.argus_refinement.specs.{CellRefinement.IsCell, TreeRefinement.history_origin}
use Rattle.argus_model.specs.Event.{Aborted, Accessed, Began, Committed}
use Rattle.argus_refinement.proofs.cell_laws.each_move_is_an_event.Goals as goal

pub returns : goal.returns
returns c = record {
  begin = λ s e j t o cell from l is k q.
      by_event s e j (Began (history_origin from)) (λ g. IsCell s g (after_begin t from) o cell) l q
      (λ w. begin_cell s (history s j) t is from w o cell k);
  aside = λ s e j t i o cell a l is k q other.
      by_event s e j (Accessed (a.0 + 1) o e) (λ g. IsCell s g t i cell) l q
      (λ w. aside_cell s (history s j) t is a o e w i cell other k);
  read = λ s e j t o cell left a l is k q reads b r v lw.
      by_event s e j (Accessed (a.0 + 1) o e) (λ g. IsCell s g t o left) l q
      (λ w. read_cell s (history s j) t is a o e w reads cell left k b r v lw);
  write = λ s e j t o cell left a content l is k q writes is_left b r v lw.
      by_event s e j (Accessed (a.0 + 1) o e) (λ g. IsCell s g t o left) l q
      (λ w. written_cell s (history s j) t is a o e w writes cell left content k is_left b r v lw);
  inherit = λ s e j t o cell left a p l is k q sub b r v lw.
      by_event s e j (Committed (a.0 + 1)) (λ g. IsCell s g (after_commit t a.0) o left) l q
      (λ w. sub_cell s (history s j) t is a w p sub o cell left k b r v lw);
  settle = λ s e j t o cell left a l is k q top b r v lw.
      by_event s e j (Committed (a.0 + 1)) (λ g. IsCell s g (after_commit t a.0) o left) l q
      (λ w. top_cell s (history s j) t is a w top o cell left k b r v lw);
  discard = λ s e j t u o cell left actions ended l is k q under more b r v lw.
      by_event s e j (Aborted actions) (λ g. IsCell s g u o left) l q
      (λ w. ended_cell s (history s j) t u is actions ended w under more o cell left k b r v lw);
}
