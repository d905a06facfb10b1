-- The proof of the laws that stand on `begin`.
use Rattle.std.proofs.Common.{arith}
use Rattle.argus_model.specs.{Event.Began, History.{next_action, ◌▹◌}, Meaning.reads}
use Rattle.argus_model.proofs.{Ancestors.lineage_old, Lawful.lawful_orderly, NextHolders.holders_after_begin}
use Rattle.argus_model.proofs.{NextLive.{live_after_begin, new_lineage, new_owner, owner_after_begin}, Work.no_work}
use Rattle.argus_model.proofs.NextSees.{base_after_begin, sees_after_begin, sees_after_begin_new}
use Rattle.argus_model.proofs.next_event.begin.Goals as goal

pub returns : goal.returns
returns g c = record {
  live = λ meaning opening h from x l. live_after_begin h from (lawful_orderly meaning opening (Began from ▹ h) l) x;
  lineage = new_lineage;
  lineages = lineage_old;
  owner = λ meaning opening h from l. new_owner h from (lawful_orderly meaning opening (Began from ▹ h) l);
  owners = λ meaning opening h from x l. owner_after_begin h from (lawful_orderly meaning opening (Began from ▹ h) l) x;
  readers = λ meaning opening h from o l.
      holders_after_begin (reads meaning) h from (lawful_orderly meaning opening (Began from ▹ h) l) o;
  writers = λ meaning opening h from o l.
      holders_after_begin meaning.writes h from (lawful_orderly meaning opening (Began from ▹ h) l) o;
  sees = λ meaning opening h from o l.
      sees_after_begin_new meaning opening h from (lawful_orderly meaning opening (Began from ▹ h) l) o;
  others_see =
      λ meaning opening h from x o l.
      sees_after_begin meaning opening h from (lawful_orderly meaning opening (Began from ▹ h) l) x o;
  work = λ meaning opening h from l. no_work h (lawful_orderly meaning opening h l.1) (next_action h) (omega arith);
  base = λ meaning opening h from o l.
      base_after_begin meaning opening h from (lawful_orderly meaning opening (Began from ▹ h) l) o;
}
