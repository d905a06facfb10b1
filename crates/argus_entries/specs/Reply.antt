-- What a reply says.
use Rattle.std.specs.Prelude.{ℕ}
use Rattle.argus_contents.specs.Answer.{PlainAnswer, plain_answer}
use Rattle.argus_entries.specs.declared.{refusal.Refusal.Refusal, reply.Reply.Reply}
use Rattle.argus_entries.specs.declared.reply.Reply.TheVariants as reply

-- a plain reply: the number of an object or an action, an answer, or a refusal
pub data PlainReply : Type 0 where
  object : ℕ → PlainReply
  begun : ℕ → PlainReply
  answered : PlainAnswer → PlainReply
  refused : Refusal → PlainReply

-- what a reply says
abbrev pub plain_reply : Reply → PlainReply
plain_reply (reply.Object o) = object o.0
plain_reply (reply.Begun a) = begun a.0
plain_reply (reply.Answered a) = answered (plain_answer a)
plain_reply (reply.Refused r) = refused r
