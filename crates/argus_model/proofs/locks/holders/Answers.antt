-- The proof of the laws that stand on `holders`.
use Rattle.argus_model.specs.{Holders.{readers, writers}, Meaning.reads}
use Rattle.argus_model.proofs.{Holders.holders_rising, Lawful.lawful_orderly, LockRules.holders_live}
use Rattle.argus_model.proofs.Numbers.{increasing}
use Rattle.argus_model.proofs.locks.holders.Goals as goal

pub returns : goal.returns
returns g c = record {
  live = λ meaning opening h o x l. holders_live meaning h (lawful_orderly meaning opening h l) o x;
  readers_rise = λ meaning h o. increasing (readers meaning h o) (holders_rising (reads meaning) h o);
  writers_rise = λ meaning h o. increasing (writers meaning h o) (holders_rising meaning.writes h o);
}
