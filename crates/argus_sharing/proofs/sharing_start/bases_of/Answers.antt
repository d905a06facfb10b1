-- One object more is copied, until all that are declared are.
use Rattle.std.proofs.Common.{ap, arith, map, ◌≡◌, ◌∙◌}
use Rattle.std.specs.List.{range_with_len}
use Rattle.argus_journal.specs.{Objects.declared, JournalFacts.base_of}
use Rattle.argus_sharing.proofs.Bases.{one_more}
use Rattle.argus_sharing.proofs.sharing_start.bases_of.Goals as goal

pub loop-number-preserved : goal.loop-number-preserved
loop-number-preserved c =
    let journal = c.args.guardian.now in
    one_more (base_of journal.opening journal.entries) c.loop-number.bases.items c.push.new.self.items c.in_ok-base.base
    c.loop-number.number c.loop-number.invariant c.in_ok-base.ensures c.in_ok-push.ensures.items

pub returns : goal.returns
returns c =
    let journal = c.args.guardian.now in
    let all : c.loop-number.number ≡ declared journal.opening journal.entries =
    omega (arith, c.loop-number-test.false, c.loop-number.auto.number-end, c.objects-number-end.ensures) in
    c.loop-number.invariant ∙ ap (λ n. map (base_of journal.opening journal.entries) (range_with_len 0 n)) all
