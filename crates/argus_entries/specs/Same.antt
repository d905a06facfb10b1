-- Tests of what is said: whether two calls, replies or entries say the same.
use Rattle.std.specs.{Prelude.{Bool, false, true, ◌&&◌, ◌==◌}, Ordering.int_eq}
use Rattle.argus_contents.specs.{Same.{same_answer, same_change, same_shape}, declared.query.Query.Query}
use Rattle.argus_entries.specs.{Call.PlainCall, Entry.PlainEntry, Reply.PlainReply, declared.refusal.Refusal.Refusal}
use Rattle.argus_contents.specs.declared.query.Query.TheVariants as query
use Rattle.argus_entries.specs.Call as call
use Rattle.argus_entries.specs.Reply as reply
use Rattle.argus_entries.specs.declared.refusal.Refusal.TheVariants as refusal

-- two queries are the same
abbrev pub same_query : Query → Query → Bool
same_query query.Whole query.Whole = true
same_query (query.Field i) (query.Field j) = i == j
same_query query.Low query.Low = true
same_query query.High query.High = true
same_query query.Size query.Size = true
same_query (query.Fetch i) (query.Fetch j) = int_eq i j
same_query query.Bottom query.Bottom = true
same_query query.Top query.Top = true
same_query (query.IsTag t) (query.IsTag u) = t == u
same_query (query.TagValue t) (query.TagValue u) = t == u
same_query _ _ = false

-- two calls say the same
abbrev pub same_call : PlainCall → PlainCall → Bool
same_call (call.declare s) (call.declare t) = same_shape s t
same_call call.begin_top call.begin_top = true
same_call (call.begin_sub x) (call.begin_sub y) = x == y
same_call (call.begin_nested x) (call.begin_nested y) = x == y
same_call (call.commit x) (call.commit y) = x == y
same_call (call.abort x) (call.abort y) = x == y
same_call (call.abort_others x) (call.abort_others y) = x == y
same_call (call.ask x o q) (call.ask y p r) = x == y && (o == p && same_query q r)
same_call (call.alter x o c) (call.alter y p d) = x == y && (o == p && same_change c d)
same_call (call.test_read x o) (call.test_read y p) = x == y && o == p
same_call (call.test_write x o) (call.test_write y p) = x == y && o == p
same_call _ _ = false

-- two refusals are the same
abbrev pub same_refusal : Refusal → Refusal → Bool
same_refusal refusal.NoAction refusal.NoAction = true
same_refusal refusal.Over refusal.Over = true
same_refusal refusal.Suspended refusal.Suspended = true
same_refusal refusal.NoObject refusal.NoObject = true
same_refusal refusal.IllTyped refusal.IllTyped = true
same_refusal refusal.Conflict refusal.Conflict = true
same_refusal refusal.TooDeep refusal.TooDeep = true
same_refusal refusal.TooMany refusal.TooMany = true
same_refusal refusal.NoSiblings refusal.NoSiblings = true
same_refusal _ _ = false

-- two replies say the same
abbrev pub same_reply : PlainReply → PlainReply → Bool
same_reply (reply.object o) (reply.object p) = o == p
same_reply (reply.begun a) (reply.begun b) = a == b
same_reply (reply.answered a) (reply.answered b) = same_answer a b
same_reply (reply.refused r) (reply.refused q) = same_refusal r q
same_reply _ _ = false

-- two entries say the same
abbrev pub same_entry : PlainEntry → PlainEntry → Bool
same_entry e f = same_call e.call f.call && same_reply e.reply f.reply
