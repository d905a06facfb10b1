-- Around an arm is its coenter.
use Rattle.std.proofs.Common.{sym, reverse}
use Rattle.argus_language.proofs.Growing.{behind-arm}
use Rattle.argus_language.proofs.reading.Reading.place_behind_arm.Goals as goal

pub returns-in-Arm : goal.returns-in-Arm
returns-in-Arm c = sym (behind-arm (reverse c.args.self.now.blocks.items) c.in-Arm.in_action c.requires.began
    (sym c.in-Arm.ensures))
