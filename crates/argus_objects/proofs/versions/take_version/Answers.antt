-- The newest version is that of the action, and goes; otherwise the search decides.
use Rattle.std.proofs.{Common.{◌≡◌, ℕ, ◌+◌, ◌-◌, ◌++◌, take, drop, sym, ◌∙◌, ap, arith, []}, lemmas.List.append-nil}
use Rattle.std.proofs.lemmas.List.{drop_all}
use Rattle.argus_objects.specs.{declared.version.Version.Version, Object.versions_newest_first, CellChanges.has_version}
use Rattle.argus_objects.proofs.Stacks.{removed_here}
use Rattle.argus_objects.proofs.versions.take_version.Goals as goal

pub returns-then-index-t-clause-versions : goal.returns-then-index-t-clause-versions
returns-then-index-t-clause-versions c =
    let vs = c.args.versions.now.items in
    let d : Version = c.index.result.now in
    let k : ℕ = c.len-held.result - 1 in
    let as_many : c.args.versions.now.len ≡ c.len-held.result = omega arith in
    let past : drop (k + 1) vs ≡ [] = drop_all (k + 1) vs (omega arith) in
    ap versions_newest_first (c.pop.ensures.rest ∙ (ap (λ n. take (n - 1) vs) as_many
    ∙ sym (ap (λ ws. take k vs ++ ws) past ∙ append-nil (take k vs))))
    ∙ removed_here c.args.t vs k d (omega arith) c.requires
    (ap (λ ws. has_version c.args.t (versions_newest_first ws)) past)
    (sym (ap (λ (v : Version). v.holder.0) c.index.ensures) ∙ c.if-index-t.true)
