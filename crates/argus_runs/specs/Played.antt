-- The calls and replies that make a run, and the one journal of a run on a guardian.
use Rattle.std.specs.Prelude.{List, None, cond, ◌≡◌, [], ◌∷◌}
use Rattle.argus_language.specs.Script.{PlainScript}
use Rattle.argus_contents.specs.declared.obj_id.ObjId.{ObjId}
use Rattle.argus_entries.specs.{Call.PlainCall, Entry.PlainEntry, Reply.PlainReply, Same.same_call}
use Rattle.argus_journal.specs.JournalView.{JournalView, after, reply_to}
use Rattle.argus_runs.specs.{RunOutcome.{RunOutcome, finished, mismatched}, Running.run_script}

-- the next entry has to be the call, and gives its reply
abbrev pub reply_from_entries : PlainCall → List PlainEntry → RunOutcome
    (List PlainEntry) PlainReply
reply_from_entries call [] = mismatched
reply_from_entries call (e ∷ es) = cond (same_call e.call call) (finished e.reply es) mismatched

-- The entries, the oldest first, are the calls of a run of the script, each the one that comes next
-- after the replies before it; and nothing comes after them.
abbrev pub Tells : PlainScript → List PlainEntry → Type 0
Tells script entries = (numbers : List ObjId)
    × (run_script (List PlainEntry) reply_from_entries None script entries ≡ finished numbers [])

-- the reply follows from the journal, which then has the call with it
abbrev pub reply_from_journal : PlainCall → JournalView → RunOutcome JournalView PlainReply
reply_from_journal call journal = finished (reply_to journal call) (after journal call)

-- what a run of the script after this journal comes to: each reply follows from the journal, and
-- the arms of a coenter run one after another
abbrev pub play : PlainScript → JournalView → RunOutcome JournalView (List ObjId)
play script journal = run_script JournalView reply_from_journal None script journal

-- the journal after a run of the script
abbrev pub IsPlay : JournalView → PlainScript → JournalView → Type 0
IsPlay old script new = (numbers : List ObjId) × (play script old ≡ finished numbers new)
