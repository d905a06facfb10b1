-- The accepted texts are the forms of the readers' languages.
use Rattle.std.proofs.Common.{arith}
use Rattle.argus_texts.specs.{Fault.IsValueText, Languages.Values}
use Rattle.argus_texts.proofs.Faults.{Accepts}

pub value_texts : Accepts (Values 16) IsValueText
value_texts = grind arith
