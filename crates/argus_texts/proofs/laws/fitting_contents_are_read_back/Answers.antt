-- What fits is as deep as the reader takes it, and is read back as such.
use Rattle.argus_texts.proofs.{Contents.read_back, Fitting.fitting_depth}
use Rattle.argus_texts.proofs.laws.fitting_contents_are_read_back.Goals as goal

pub returns : goal.returns
returns c = λ s n k v m e w. let d = fitting_depth s n k v m e w in (d, read_back v d)
