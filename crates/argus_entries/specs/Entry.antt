-- What an entry says.
use Rattle.argus_entries.specs.{Call.{PlainCall, plain_call}, Reply.{PlainReply, plain_reply}}
use Rattle.argus_entries.specs.declared.entry.Entry.{Entry}

-- a plain call with its plain reply
pub record PlainEntry : Type 0 where
  pub call : PlainCall
  pub reply : PlainReply

-- what an entry says
abbrev pub plain_entry : Entry → PlainEntry
plain_entry e = record { call = plain_call e.call; reply = plain_reply e.reply }
