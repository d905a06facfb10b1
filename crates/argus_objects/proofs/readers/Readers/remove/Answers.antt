-- An action past the newest reader is none, and the newest is the last.
use Rattle.std.proofs.Common.{◌≡◌, ◌-◌, ◌<◌, ◌≤◌, true, length, drop, get_or, vec_len, sym, subst, arith}
use Rattle.std.proofs.lemmas.Grind.{common_steps}
use Rattle.argus_actions.specs.declared.action_id.ActionId.{ActionId}
use Rattle.argus_objects.specs.{Rules.is_ascending, CellChanges.without_reader, Readers.ReaderList}
use Rattle.argus_objects.proofs.Parted.{past_newest, popped, seen}
use Rattle.argus_objects.proofs.readers.Readers.remove.Goals.{then-taken-eq0-via-then-taken-eq0}
use Rattle.argus_objects.proofs.readers.Readers.remove.Goals.{then-taken-eq0-via-else-taken-eq0+then-index-a}
use Rattle.argus_objects.proofs.readers.Readers.remove.Goals as goal

pub returns-then-taken-eq0-clause-items : goal.returns-then-taken-eq0-clause-items
returns-then-taken-eq0-clause-items c =
    let a = c.args.a in
    let xs = c.self.inside.list.items in
    let none : ActionId = record { 0 = 0 } in
    let held : c.self.inside.front ≤ vec_len c.self.inside.list - 1 = c.self.invariant in
    let long : c.len-taken.result ≡ length xs = omega (arith, c.len-taken.ensures, c.self.inside.list.ok) in
    let within : c.self.inside.front ≤ length xs - 1 = omega (arith, held, c.self.inside.list.ok) in
    let up : is_ascending (drop c.self.inside.front xs) ≡ true =
    subst (λ (r : ReaderList). is_ascending r.items ≡ true) (sym c.self.view_is) c.requires in
    let older : 0 < length xs → (get_or xs (length xs - 1) none).0 < a.0 = λ some. elim c.then-taken-eq0.branch [
      | then-taken-eq0-via-then-taken-eq0 w ↦ absurd (omega (arith, some, long, w.if-taken-eq0.true))
      | then-taken-eq0-via-else-taken-eq0+then-index-a w ↦
          omega (arith, w.if-index-a.true, seen xs c.len-taken.result none w.index.result.now long some w.index.ensures)
    ] in
    subst (λ (r : ReaderList). r.items ≡ without_reader a r.items) c.self.view_is
    (sym (past_newest a xs c.self.inside.front none within up older).same)

pub returns-then-index-a-2-clause-items : goal.returns-then-index-a-2-clause-items
returns-then-index-a-2-clause-items c = grind (arith, common_steps, seen, popped)
