-- Each list by itself.
use Rattle.argus_objects.proofs.Members.{reader_handed, versions_handed, content_handed, content_stays}
use Rattle.argus_objects.proofs.laws.members_after_inherit.Goals as goal

pub returns-clause-readers : goal.returns-clause-readers
returns-clause-readers c = λ s parent x readers other. reader_handed s parent x readers

pub returns-clause-versions : goal.returns-clause-versions
returns-clause-versions c = λ s parent x versions other. versions_handed s parent x other versions

pub returns-clause-content : goal.returns-clause-content
returns-clause-content c = λ s parent versions other has. content_handed s parent other versions has

pub returns-clause-others : goal.returns-clause-others
returns-clause-others c = λ s parent x versions other other'. content_stays s parent x other other' versions
