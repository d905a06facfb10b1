-- The proof of the laws that stand on `abort`.
use Rattle.argus_model.specs.{Event.Aborted, History.◌▹◌, Meaning.reads}
use Rattle.argus_model.proofs.{Lawful.lawful_orderly, Live.live_stands, NextSees.{base_after_abort, sees_after_abort}}
use Rattle.argus_model.proofs.{NextHolders.holders_after_abort, NextLive.{live_after_abort, owner_after_abort}}
use Rattle.argus_model.proofs.next_event.abort.Goals as goal

pub returns : goal.returns
returns g c = record {
  live = λ meaning opening h actions x l.
      live_after_abort h actions (lawful_orderly meaning opening (Aborted actions ▹ h) l) x;
  owners = λ meaning opening h actions x l.
      owner_after_abort h actions (lawful_orderly meaning opening (Aborted actions ▹ h) l) x;
  readers = λ meaning opening h actions o l.
      holders_after_abort (reads meaning) h actions (lawful_orderly meaning opening (Aborted actions ▹ h) l) o;
  writers = λ meaning opening h actions o l.
      holders_after_abort meaning.writes h actions (lawful_orderly meaning opening (Aborted actions ▹ h) l) o;
  sees = λ meaning opening h actions x o l k.
      sees_after_abort meaning opening h actions (lawful_orderly meaning opening (Aborted actions ▹ h) l) x o
      (live_stands (Aborted actions ▹ h) (lawful_orderly meaning opening (Aborted actions ▹ h) l) x k).1;
  base = λ meaning opening h actions o l.
      base_after_abort meaning opening h actions (lawful_orderly meaning opening (Aborted actions ▹ h) l) o;
}
