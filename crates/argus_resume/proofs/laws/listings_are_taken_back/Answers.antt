-- Nothing is left, the journals are the same, and a sound opening is its own sound front.
use Rattle.argus_resume.proofs.{NextLines.taken_back, Stages.front_same}
use Rattle.argus_resume.proofs.laws.listings_are_taken_back.Goals as goal

pub returns-clause-taken : goal.returns-clause-taken
returns-clause-taken c = taken_back

pub returns-clause-whole : goal.returns-clause-whole
returns-clause-whole c = λ journal listable. front_same journal listable.sound
