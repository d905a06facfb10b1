-- The proof of the laws that stand on `commit`.
use Rattle.argus_model.specs.{Event.Committed, History.{◌▹◌}, Meaning.reads}
use Rattle.argus_model.proofs.{Commits.order_added, Lawful.{lawful_orderly, lawful_steps}, Live.live_stands}
use Rattle.argus_model.proofs.{NextHolders.holders_after_commit, NextLive.{live_after_commit, owner_after_commit}}
use Rattle.argus_model.proofs.{NextSees.{base_after_commit, sees_after_commit}, Serial.guarded}
use Rattle.argus_model.proofs.next_event.commit.Goals as goal

pub returns : goal.returns
returns g c = record {
  live = λ meaning opening h a x l. live_after_commit h a (lawful_orderly meaning opening (Committed a ▹ h) l) x;
  owners = λ meaning opening h a x l. owner_after_commit h a (lawful_orderly meaning opening (Committed a ▹ h) l) x;
  readers = λ meaning opening h a o l.
      holders_after_commit (reads meaning) h a (lawful_orderly meaning opening (Committed a ▹ h) l) o;
  writers = λ meaning opening h a o l.
      holders_after_commit meaning.writes h a (lawful_orderly meaning opening (Committed a ▹ h) l) o;
  sees = λ meaning opening h a x o l k n.
      sees_after_commit meaning opening h a (lawful_orderly meaning opening (Committed a ▹ h) l)
      (guarded meaning opening.contents h (lawful_steps meaning opening h l.1)) x
      (live_stands h (lawful_orderly meaning opening h l.1) x k).1 n o;
  base = λ meaning opening h a o l.
      base_after_commit meaning opening h a (lawful_orderly meaning opening (Committed a ▹ h) l)
      (guarded meaning opening.contents h (lawful_steps meaning opening h l.1)) o;
  serial = order_added;
}
