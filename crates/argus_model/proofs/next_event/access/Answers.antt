-- The proof of the laws that stand on `access`.
use Rattle.std.proofs.Common.{refl}
use Rattle.argus_model.specs.{Event.Accessed, History.{◌▹◌}, Meaning.reads}
use Rattle.argus_model.proofs.{Lawful.lawful_orderly, Live.live_stands, NextHolders.holders_after_access}
use Rattle.argus_model.proofs.NextLive.{owner_after_access}
use Rattle.argus_model.proofs.NextSees.{base_after_access, sees_after_access_other, sees_after_access_own}
use Rattle.argus_model.proofs.next_event.access.Goals as goal

pub returns : goal.returns
returns g c = record {
  live = λ h a o x v. refl;
  owners = λ meaning opening h a o x v l.
      owner_after_access h a o v (lawful_orderly meaning opening (Accessed a o v ▹ h) l) x;
  readers = λ meaning opening h a o i v l.
      holders_after_access (reads meaning) h a o v (lawful_orderly meaning opening (Accessed a o v ▹ h) l) i;
  writers = λ meaning opening h a o i v l.
      holders_after_access meaning.writes h a o v (lawful_orderly meaning opening (Accessed a o v ▹ h) l) i;
  sees = λ meaning opening h a o i v l.
      sees_after_access_own meaning opening h a o v (lawful_orderly meaning opening (Accessed a o v ▹ h) l) i;
  others_see =
      λ meaning opening h a o x i v l k.
      sees_after_access_other meaning opening h a o v (lawful_orderly meaning opening (Accessed a o v ▹ h) l) x i
      (live_stands h (lawful_orderly meaning opening h l.1) x k).1;
  base = λ meaning opening h a o i v l.
      base_after_access meaning opening h a o v (lawful_orderly meaning opening (Accessed a o v ▹ h) l) i;
}
