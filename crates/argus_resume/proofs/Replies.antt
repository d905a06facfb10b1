-- The replies of a legal journal can be read if its opening and its calls can.
use Rattle.std.proofs.Common.{Bool, List, Option, arith, true, ℕ, ◌+◌, ◌<◌, ◌^◌, ◌≡◌}
use Rattle.argus_contents.specs.{Content.{KeepsLimits, PlainContent}, declared.limits.TheConstants.MAX_VALUE_DEPTH}
use Rattle.argus_entries.specs.{Call.PlainCall, Entry.PlainEntry, Laws.{CallWithin, ReplyWithin}}
use Rattle.argus_entries.specs.declared.refusal.Refusal.{Refusal}
use Rattle.argus_journal.specs.{Answers.{answer, granted, or_refused, refusal, visible_in_history}, Events.history}
use Rattle.argus_journal.specs.{JournalFacts.next_action_number, Legal.Legal, Objects.{declared, shape_of, shapes}}
use Rattle.argus_journal.specs.Opening.{KeepsNumbers, Opening, content_in, is_sound}
use Rattle.argus_model.specs.Owner.{counts_for, owner}
use Rattle.argus_journal.proofs.{Contents.content_fits, Fitting.fits_keeps, Within.{actions_within, objects_within}}
use Rattle.argus_resume.specs.JournalText.{AreReadableObjects, IsEmptyOrReadable}
use Rattle.argus_resume.proofs.{Depths.{answer_within, change_within, ValuesWithin}, Seen.{CallsWithin, opened_within}}
use Rattle.argus_resume.proofs.Seen.{seen_within}

-- THE OPENING

-- its objects
pub begins_objects : (s : Opening) → IsEmptyOrReadable s → AreReadableObjects s.objects
begins_objects s p = grind arith

-- and its numbers
pub begins_numbers : (s : Opening) → IsEmptyOrReadable s → KeepsNumbers s
begins_numbers s p = grind arith

-- REPLIES

module _ (s : Opening) (older : List PlainEntry) (begins : IsEmptyOrReadable s) (sound : is_sound s ≡ true)
    (legal : Legal s older) (calls : CallsWithin MAX_VALUE_DEPTH older) where
  -- whose work the action sees
  abbrev counts : ℕ → ℕ → Bool
  counts a b = counts_for (history s older) (a + 1) (owner (history s older) b)

  -- what the action sees in an object
  abbrev seen : ℕ → ℕ → Option PlainContent
  seen a o = visible_in_history s (history s older) a o

  seen_shallow : (a o : ℕ) → ValuesWithin MAX_VALUE_DEPTH (seen a o)
  seen_shallow a o = seen_within MAX_VALUE_DEPTH (counts a) o (content_in s.objects o) s older calls
      (opened_within s.objects o (begins_objects s begins))

  seen_keeps : (a o : ℕ) → KeepsLimits (seen a o)
  seen_keeps a o =
      fits_keeps (shape_of s older o) (declared s older) (seen a o) (content_fits (counts a) s older o sound legal)

  next_object : declared s older < 2 ^ 32
  next_object = let n = objects_within s older (begins_numbers s begins).objects legal in omega (arith, n)

  next_action : next_action_number s older < 2 ^ 32
  next_action = let n = actions_within s older (begins_numbers s begins).actions legal in omega (arith, n)

  granted_within : (call : PlainCall) → CallWithin MAX_VALUE_DEPTH call
      → ReplyWithin MAX_VALUE_DEPTH (granted s (history s older) (shapes s older) call)
  granted_within p w = grind (arith, next_object, next_action, answer_within, seen_keeps, seen_shallow, change_within)

  reply_within : (call : PlainCall) (why : Option Refusal) → CallWithin MAX_VALUE_DEPTH call
      → ReplyWithin MAX_VALUE_DEPTH (or_refused why (granted s (history s older) (shapes s older) call))
  reply_within call p w = grind (arith, granted_within)

  -- the reply to a call that can be read
  pub answer_readable : (call : PlainCall) → CallWithin MAX_VALUE_DEPTH call
      → ReplyWithin MAX_VALUE_DEPTH (answer s older call)
  answer_readable call w = reply_within call (refusal (history s older) (shapes s older) call) w
