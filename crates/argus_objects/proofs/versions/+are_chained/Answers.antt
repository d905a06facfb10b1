-- A chain with one more on top.
use Rattle.std.proofs.Common.{◌&&◌, sym, ◌∙◌, ap, rules}
use Rattle.argus_objects.{specs.{Object.{holders, versions_newest_first}, Rules.is_chain}, proofs.Stacks.chain_push}
use Rattle.argus_objects.proofs.versions.+are_chained.Goals as goal

pub returns-then-is_below_all : goal.returns-then-is_below_all
returns-then-is_below_all t c =
    c.are_chained.ensures
    ∙ sym (chain_push c.args.tree.now c.args.versions.now c.in-Some.older.now c.in-Some.newest.now (search rules)
    ∙ ap (λ b. b && is_chain c.args.tree.now (holders (versions_newest_first c.in-Some.older.now)))
    (sym c.is_below_all.ensures ∙ c.if-is_below_all.true))

pub returns-else-is_below_all : goal.returns-else-is_below_all
returns-else-is_below_all t c =
    c.if-is_below_all.false
    ∙ sym (chain_push c.args.tree.now c.args.versions.now c.in-Some.older.now c.in-Some.newest.now (search rules)
    ∙ ap (λ b. b && is_chain c.args.tree.now (holders (versions_newest_first c.in-Some.older.now)))
    (sym c.is_below_all.ensures ∙ c.if-is_below_all.false))
