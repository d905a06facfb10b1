-- The search ends at the version, or there is none.
use Rattle.std.proofs.{Common.{◌≡◌, Err, Ok, arith, false, rules, sym}, lemmas.List.Sorted.answers_always}
use Rattle.std.proofs.lemmas.Grind.{common_steps}
use Rattle.argus_objects.specs.{declared.version.Version.Version, CellChanges.has_version, Object.versions_newest_first}
use Rattle.argus_objects.proofs.{Searched.{IsVersionAt, version_searched}, Stacks.{removed_here, version_here}}
use Rattle.argus_objects.proofs.Stacks.{version_of_none, without_none}
use Rattle.argus_objects.proofs.versions.remove_version.Goals as goal

here : (c : goal.After-remove) → IsVersionAt c.args.t c.args.versions.now.items c.in-Ok.at
here c =
    let by = rw c.deref.ensures.value at
    (c.in-Ok.ensures.position (λ (v : Version). v.holder.0) (answers_always _ _ _ (λ f a r g called. search rules))) in
    (version_searched c.args.t c.args.versions.now.items c.requires (Ok c.in-Ok.at)
    (rw c.deref.ensures.value at c.in-Ok.ensures.bound) by).found

none : (c : goal.In-Err) → has_version c.args.t (versions_newest_first c.args.versions.now.items) ≡ false
none c =
    let by = rw c.deref.ensures.value at
    (c.in-Err.ensures.position (λ (v : Version). v.holder.0) (answers_always _ _ _ (λ f a r g called. search rules))) in
    (version_searched c.args.t c.args.versions.now.items c.requires (Err c.in-Err.field-0)
    (rw c.deref.ensures.value at c.in-Err.ensures.bound) by).missing

pub returns-in-Ok-clause-content : goal.returns-in-Ok-clause-content
returns-in-Ok-clause-content c = grind (arith, common_steps, version_here, here)

pub returns-in-Ok-clause-versions : goal.returns-in-Ok-clause-versions
returns-in-Ok-clause-versions c = grind (arith, common_steps, removed_here, here)

pub returns-in-Err-clause-content : goal.returns-in-Err-clause-content
returns-in-Err-clause-content c =
    sym (version_of_none c.args.t (versions_newest_first c.args.versions.now.items) (none c))

pub returns-in-Err-clause-versions : goal.returns-in-Err-clause-versions
returns-in-Err-clause-versions c =
    sym (without_none c.args.t (versions_newest_first c.args.versions.now.items) (none c))
