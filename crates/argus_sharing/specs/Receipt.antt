-- What a receipt says.
use Rattle.std.specs.Prelude.{ℕ}
use Rattle.argus_entries.specs.{Call.plain_call, Entry.PlainEntry, Reply.plain_reply}
use Rattle.argus_sharing.specs.declared.receipt.Receipt.{Receipt}

-- a number, and what the entry with this number should be
pub record PlainReceipt : Type 0 where
  pub at : ℕ
  pub entry : PlainEntry

-- what a receipt says
abbrev pub plain_receipt : Receipt → PlainReceipt
plain_receipt r = record {
  at = r.at;
  entry = record { call = plain_call r.call; reply = plain_reply r.reply };
}
