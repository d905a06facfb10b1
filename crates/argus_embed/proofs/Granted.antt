-- A test that would return yes, as a truth value.
use Rattle.std.proofs.{Common.{Bool, IsTrue, ap, false, refl, sym, true, ◌↔◌, ◌≡◌}, lemmas.Bool.false≢true}
use Rattle.argus_values.specs.Answer.{flag}
use Rattle.argus_journal.specs.{Reply.{PlainReply, answered}, Events.says_yes}

-- what is no yes isn't
not_yes : (reply : PlainReply) → (reply ≡ answered (flag true) → IsTrue false) → false ≡ says_yes reply
not_yes (answered (flag true)) never = absurd (false≢true (never refl))
not_yes _ never = refl

-- it says yes exactly where it is granted
pub yes_where : (b : Bool) (reply : PlainReply) → IsTrue b ↔ (reply ≡ answered (flag true)) → b ≡ says_yes reply
yes_where true reply is = sym (ap says_yes (is.0 refl))
yes_where false reply is = not_yes reply is.1
