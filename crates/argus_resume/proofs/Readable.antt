-- The lines of a legal journal can be read exactly if its calls can.
use Rattle.std.proofs.Common.{List, [], subst, sym, true, ◌∷◌, ◌≡◌}
use Rattle.argus_contents.specs.declared.limits.TheConstants.{MAX_VALUE_DEPTH}
use Rattle.argus_entries.specs.{Entry.PlainEntry, Laws.ReplyWithin}
use Rattle.argus_journal.specs.{Legal.Legal, Opening.{Opening, is_sound}}
use Rattle.argus_reading.specs.Line.{IsReadable}
use Rattle.argus_resume.specs.ReadableCalls.{HasReadableCall, HaveReadableCalls}
use Rattle.argus_resume.specs.JournalText.{AreReadable, IsEmptyOrReadable}
use Rattle.argus_resume.proofs.{Granted.{call_shallow, shapes_makeable}, Replies.{answer_readable, begins_objects}}
use Rattle.argus_resume.proofs.Seen.{CallsWithin}

module _ (s : Opening) (begins : IsEmptyOrReadable s) (sound : is_sound s ≡ true) where
  -- no call has a value more than 16 deep
  pub calls_within : (j : List PlainEntry) → Legal s j → HaveReadableCalls j → CallsWithin MAX_VALUE_DEPTH j
  calls_within [] l h = tt
  calls_within (e ∷ older) l h =
      let makeable = shapes_makeable s older (begins_objects s begins) h.1 in
      (call_shallow s older makeable e l.0 h.0, calls_within older l.1 h.1)

  -- nor has a reply
  pub readable_by_calls : (j : List PlainEntry) → Legal s j → HaveReadableCalls j → AreReadable j
  readable_by_calls [] l h = tt
  readable_by_calls (e ∷ older) l h =
      let w = calls_within (e ∷ older) l h in
      let reply = answer_readable s older begins sound l.1 w.1 e.call w.0 in
      (((w.0, h.0.well_formed.1), subst (ReplyWithin MAX_VALUE_DEPTH) (sym l.0) reply), readable_by_calls older l.1 h.1)

readable_call : (e : PlainEntry) → IsReadable e → HasReadableCall e
readable_call e r = record { well_formed = ((MAX_VALUE_DEPTH, r.0.0), r.0.1); depth = λ why is. r.0.0 }

-- what can be read has such calls
pub calls_of_readable : (j : List PlainEntry) → AreReadable j → HaveReadableCalls j
calls_of_readable [] r = tt
calls_of_readable (e ∷ older) r = (readable_call e r.0, calls_of_readable older r.1)
