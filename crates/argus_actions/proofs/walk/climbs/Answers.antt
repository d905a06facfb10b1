-- Where the climb ends, the answer is known.
use Rattle.std.proofs.{Common.{◌-◌, sym, ◌∙◌, arith, inl, inr}, lemmas.Bool.{Decides.nat_tests, eq-eqb, ne_eqb}}
use Rattle.std.proofs.lemmas.Bool.{cases_eq}
use Rattle.argus_actions.{specs.Nodes.rows_of, proofs.{RowsLemmas.is_above_newer, NodesLemmas.some_node}}
use Rattle.argus_actions.proofs.Climbs.{climbed_here, climbed_up, climbed_out, parent_before}
use Rattle.argus_actions.proofs.walk.climbs.Goals as goal

pub loop-at-smaller : goal.loop-at-smaller
loop-at-smaller c =
    (parent_before c.args.first c.args.nodes.now c.args.x c.loop-at.at (c.loop-at.at - c.args.first) _ c.requires.linked
    (omega (arith, c.loop-at.invariant.held)) (omega (arith, c.loop-at.invariant.held, c.loop-at.invariant.begun))
    c.in-Sub.parent c.in-Sub.is).1

pub loop-at-preserved : goal.loop-at-preserved
loop-at-preserved c =
    let by_before = parent_before c.args.first c.args.nodes.now c.args.x c.loop-at.at (c.loop-at.at - c.args.first) in
    let by_up = climbed_up c.args.first c.args.nodes.now c.args.x c.loop-at.at (c.loop-at.at - c.args.first) in
    grind (arith, nat_tests, by_before, by_up)

pub returns-in-Top : goal.returns-in-Top
returns-in-Top c = grind (arith, nat_tests, climbed_out)

pub returns : goal.returns
returns c =
    elim (cases_eq c.args.x c.loop-at.at) [
      | inl e ↦ eq-eqb c.args.x c.loop-at.at e
          ∙ sym (climbed_here c.args.first c.args.nodes.now c.args.x c.loop-at.at (c.loop-at.at - c.args.first)
          some_node c.requires.linked (omega (arith, c.loop-at.invariant.held))
          (omega (arith, c.loop-at.invariant.held, c.loop-at.invariant.begun)) e)
          ∙ c.loop-at.invariant.same
      | inr ne ↦ ne_eqb c.args.x c.loop-at.at ne
          ∙ sym (is_above_newer c.args.first (rows_of c.args.nodes.now) c.args.x c.loop-at.at c.requires.linked
          (omega arith))
          ∙ c.loop-at.invariant.same
    ]
