-- The last object of the front tells where its lines end.
use Rattle.std.proofs.Common.{arith, ap, length, suc, ◌∙◌, ◌-◌, ◌≡◌}
use Rattle.argus_resume.specs.{SoundFront.opening_front, Stage.{lines_of, opening_read}}
use Rattle.argus_resume.specs.declared.opened_object.OpenedObject.{OpenedObject}
use Rattle.argus_resume.proofs.Ends.{front_end}
use Rattle.argus_resume.proofs.opening_lines.OpeningLines.end_of.Goals as goal

pub returns : goal.returns
returns c =
    let lines = c.args.self.now in
    let same : suc (c.args.count - 1) ≡ c.args.count = omega arith in
    ap (λ (x : OpenedObject). x.end) c.index.ensures
    ∙ front_end lines c.requires.counted (c.args.count - 1) c.index.result.now (omega arith)
    ∙ ap (λ n. length (lines_of (opening_front (opening_read lines) n))) same
