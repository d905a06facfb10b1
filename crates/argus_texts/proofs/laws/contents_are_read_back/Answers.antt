-- A text begins with one form at most.
use Rattle.argus_texts.proofs.Contents.{read_back}
use Rattle.argus_texts.proofs.laws.contents_are_read_back.Goals as goal

pub returns : goal.returns
returns c = read_back
