-- Lines spell one script at most.
use Rattle.argus_language.proofs.Unambiguous.{one-script}
use Rattle.argus_language.proofs.laws.lines_spell_one_script.Goals as goal

pub returns : goal.returns
returns c = one-script
