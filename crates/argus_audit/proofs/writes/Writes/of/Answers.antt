-- What was linked is kept.
use Rattle.std.proofs.{Common.{arith, length, reverse, subst, sym, ◌≡◌}, lemmas.List.with_items_is}
use Rattle.argus_audit.specs.Writes.{AreHeads, AreLinks}
use Rattle.argus_journal.specs.Journal.{entries_of}
use Rattle.argus_audit.proofs.writes.Writes.of.Goals as goal

pub returns : goal.returns
returns c =
    let xs = reverse (entries_of c.args.journal.now) in
    let fits : length c.link.new.first ≡ c.in_ok-first.first.len = omega arith in
    let all : length c.link.new.next ≡ c.in_ok-next.next.len = omega arith in (
      subst (AreHeads xs 0) (sym (with_items_is c.in_ok-first.first c.link.new.first fits)) c.link.ensures.heads,
      subst (AreLinks xs) (sym (with_items_is c.in_ok-next.next c.link.new.next all)) c.link.ensures.links,
    )
