-- What the accesses of a journal mean: the one `Meaning` of its history.
use Rattle.std.proofs.{Common.{refl, sym}, lemmas.Bool.false≢true}
use Rattle.std.specs.Prelude.{Bool, Option, false, true, ◌≡◌}
use Rattle.argus_contents.specs.{Answer.{PlainAnswer, done, flag}, Change.{outcome, touch}, Content.PlainContent}
use Rattle.argus_contents.specs.Query.{reply}
use Rattle.argus_entries.specs.Call.{PlainCall, abort, abort_others, alter, ask, begin_nested, begin_sub, begin_top}
use Rattle.argus_entries.specs.{Call.{commit, declare, test_read, test_write}, Entry.PlainEntry}
use Rattle.argus_entries.specs.Reply.{PlainReply, answered}
use Rattle.argus_model.specs.Meaning.{Meaning}

-- it needs a write lock
abbrev pub is_write : PlainCall → Bool
is_write (alter a o change) = true
is_write (test_write a o) = true
is_write (declare shape) = false
is_write begin_top = false
is_write (begin_sub parent) = false
is_write (begin_nested creator) = false
is_write (commit a) = false
is_write (abort a) = false
is_write (abort_others a) = false
is_write (ask a o query) = false
is_write (test_read a o) = false

-- what the call makes of a content; a granted test for writing acts like the change `touch`
abbrev pub content_after_call : PlainCall → Option PlainContent → Option PlainContent
content_after_call (alter a o change) c = (outcome change c).0
content_after_call (test_write a o) c = (outcome touch c).0
content_after_call (declare shape) c = c
content_after_call begin_top c = c
content_after_call (begin_sub parent) c = c
content_after_call (begin_nested creator) c = c
content_after_call (commit a) c = c
content_after_call (abort a) c = c
content_after_call (abort_others a) c = c
content_after_call (ask a o query) c = c
content_after_call (test_read a o) c = c

-- the answer to the call at a content, if its lock is granted
abbrev pub answer_at_content : PlainCall → Option PlainContent → PlainAnswer
answer_at_content (ask a o query) c = reply query c
answer_at_content (alter a o change) c = (outcome change c).1
answer_at_content (test_read a o) c = flag true
answer_at_content (test_write a o) c = flag true
answer_at_content (declare shape) c = done
answer_at_content begin_top c = done
answer_at_content (begin_sub parent) c = done
answer_at_content (begin_nested creator) c = done
answer_at_content (commit a) c = done
answer_at_content (abort a) c = done
answer_at_content (abort_others a) c = done

-- a call that needs no write lock doesn't change the content
abbrev pub calls_keep : (call : PlainCall) → is_write call ≡ false → (c : Option PlainContent)
    → content_after_call call c ≡ c
calls_keep (alter a o change) n c = absurd (false≢true (sym n))
calls_keep (test_write a o) n c = absurd (false≢true (sym n))
calls_keep (declare shape) n c = refl
calls_keep begin_top n c = refl
calls_keep (begin_sub parent) n c = refl
calls_keep (begin_nested creator) n c = refl
calls_keep (commit a) n c = refl
calls_keep (abort a) n c = refl
calls_keep (abort_others a) n c = refl
calls_keep (ask a o query) n c = refl
calls_keep (test_read a o) n c = refl

-- an entry that isn't a write leaves what it finds
abbrev pub entry_keeps : (e : PlainEntry) → is_write e.call ≡ false → (c : Option PlainContent)
    → content_after_call e.call c ≡ c
entry_keeps e n c = calls_keep e.call n c

-- the recorded reply is the one that follows from the content
abbrev pub entries : Meaning PlainEntry (Option PlainContent) PlainReply
entries = record {
  writes = λ e. is_write e.call;
  after = λ e c. content_after_call e.call c;
  answer = λ e c. answered (answer_at_content e.call c);
  recorded = λ e. e.reply;
  reads_keep = entry_keeps;
}
