-- The proof of the laws that stand on `lock_rules`.
use Rattle.argus_model.proofs.LockRules.{read_rule, write_rule}
use Rattle.argus_model.proofs.locks.lock_rules.Goals as goal

pub returns : goal.returns
returns g c = record {
  read = read_rule;
  write = write_rule;
}
