-- It is the newest reader already, or it is pushed behind the newest.
use Rattle.std.proofs.Common.{◌≡◌, ◌-◌, ◌<◌, ◌≤◌, true, length, drop, get_or, vec_len, sym, ◌∙◌, subst, arith}
use Rattle.std.proofs.lemmas.Grind.{common_steps}
use Rattle.argus_actions.specs.declared.action_id.ActionId.{ActionId}
use Rattle.argus_objects.specs.{Rules.is_ascending, CellChanges.with_reader, Readers.ReaderList}
use Rattle.argus_objects.proofs.Parted.{at_newest, pushed, seen}
use Rattle.argus_objects.proofs.readers.Readers.add.Goals as goal

pub returns-else-index-a-2-clause-items : goal.returns-else-index-a-2-clause-items
returns-else-index-a-2-clause-items c =
    let a = c.args.a in
    let xs = c.self.inside.list.items in
    let none : ActionId = record { 0 = 0 } in
    let held : c.self.inside.front ≤ vec_len c.self.inside.list - 1 = c.self.invariant in
    let long : c.len-taken.result ≡ length xs = omega (arith, c.len-taken.ensures, c.self.inside.list.ok) in
    let within : c.self.inside.front ≤ length xs - 1 = omega (arith, held, c.self.inside.list.ok) in
    let some : 0 < length xs = omega (arith, long, c.if-taken-gt0.true) in
    let up : is_ascending (drop c.self.inside.front xs) ≡ true =
    subst (λ (r : ReaderList). is_ascending r.items ≡ true) (sym c.self.view_is) c.requires.ascending in
    let same : (get_or xs (length xs - 1) none).0 ≡ a.0 =
    seen xs c.len-taken.result none c.index-then-index-a.result.now long some c.index-then-index-a.ensures
    ∙ c.if-index-a-2.false in
    subst (λ (r : ReaderList). r.items ≡ with_reader a r.items) c.self.view_is
    (sym (at_newest a xs c.self.inside.front none within some up same).same)

pub returns-then-taken-capacity-clause-items : goal.returns-then-taken-capacity-clause-items
returns-then-taken-capacity-clause-items c = grind (arith, common_steps, seen, pushed)
