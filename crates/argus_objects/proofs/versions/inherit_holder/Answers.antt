-- One version more is handed over, or left as it is.
use Rattle.std.proofs.{Common.{◌≡◌, map, length, get_or, sym, ◌∙◌, ap, arith}, lemmas.{List.length-map, Bool.eq-eqb}}
use Rattle.std.proofs.lemmas.Bool.{ne_eqb, cond-true, cond-false}
use Rattle.argus_objects.{specs.{declared.version.Version.Version, Object.plain_version}, proofs.Stacks.handed_more}
use Rattle.argus_objects.proofs.versions.inherit_holder.Goals.{then-version-s, else-version-s}
use Rattle.argus_objects.proofs.versions.inherit_holder.Goals as goal

pub loop-version-preserved : goal.loop-version-preserved
loop-version-preserved c =
    let old = c.args.versions.now in
    let now = c.loop-version.versions in
    let i = c.loop-version.version-index in
    let d : Version = c.version-item.result in
    let as_many : length (map plain_version old) ≡ length old = length-map old plain_version in
    elim c.if-version-s.branch [
      | then-version-s w ↦
          ap (map plain_version) w.versions-is
          ∙ handed_more c.args.s c.args.parent (map plain_version old) now i d _ (omega arith) (omega arith)
          c.loop-version.invariant
          (sym (cond-true _ _ _ (eq-eqb (get_or now i d).holder.0 c.args.s.0 w.if-version-s.true)))
      | else-version-s w ↦
          ap (map plain_version) w.versions-is
          ∙ handed_more c.args.s c.args.parent (map plain_version old) now i d _ (omega arith) (omega arith)
          c.loop-version.invariant
          (sym (cond-false _ _ _ (ne_eqb (get_or now i d).holder.0 c.args.s.0 w.if-version-s.false)))
    ]
