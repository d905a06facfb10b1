-- The proof that the tree refuses what the journal refuses.
use Rattle.std.{proofs.{Common.arith, lemmas.Bool.Decides.nat_tests}, specs.Prelude.List}
use Rattle.argus_entries.specs.Entry.{PlainEntry}
use Rattle.argus_journal.{proofs.Legal.lawful, specs.{Events.history, Legal.Legal, Opening.Opening}}
use Rattle.argus_refinement.proofs.{CellHolders.orderly, TreeRefusals.{abort_is, commit_is, nested_is, others_is}}
use Rattle.argus_refinement.proofs.TreeRefusals.{sub_is, top_is}
use Rattle.argus_model.proofs.Standing.{Orderly}
use Rattle.argus_refinement.proofs.tree_laws.refusals_agree.Goals as goal

now : (s : Opening) (j : List PlainEntry) → Legal s j → Orderly (history s j)
now s j l = orderly s (history s j) (lawful s j l)

pub returns : goal.returns
returns c = grind (arith, nat_tests, top_is, now, sub_is, nested_is, commit_is, abort_is, others_is)
