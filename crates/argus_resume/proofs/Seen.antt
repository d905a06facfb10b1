-- What is in an object is no deeper than what the opening had and what calls passed in.
use Rattle.std.proofs.Common.{arith, Bool, List, Option, [], suc, zero, ℕ, ◌∷◌}
use Rattle.argus_contents.specs.{Content.PlainContent, Shape.PlainShape, declared.limits.TheConstants.MAX_VALUE_DEPTH}
use Rattle.argus_entries.specs.{Call.PlainCall, Entry.PlainEntry, Laws.CallWithin, Reply.PlainReply}
use Rattle.argus_model.specs.{Contents.replay, Event.{Accessed, Event}, History.{History, ◌▹◌}}
use Rattle.argus_journal.specs.{Entries.{content_after_call, entries}, Opening.{Opening, content_in}, Events.event_if}
use Rattle.argus_journal.specs.Events.{event_of, history, with_event}
use Rattle.argus_reading.specs.OpeningLanguages.{IsReadableContent}
use Rattle.argus_resume.specs.JournalText.{AreReadableObjects}
use Rattle.argus_resume.proofs.Depths.{ValuesWithin, by_if, change_within, parts_within}

-- each of the calls has values of depth at most k
abbrev pub CallsWithin : ℕ → List PlainEntry → Type 0
CallsWithin k [] = Unit {0}
CallsWithin k (e ∷ older) = CallWithin k e.call × CallsWithin k older

after_call : (k : ℕ) (call : PlainCall) (c : Option PlainContent) → CallWithin k call → ValuesWithin k c
    → ValuesWithin k (content_after_call call c)
after_call k p c h w = grind (arith, change_within)

module _ (k : ℕ) (counts : ℕ → Bool) (o : ℕ) (c : Option PlainContent) where
  abbrev Holds : History PlainEntry → Type 0
  Holds h = ValuesWithin k (replay entries counts o c h)

  happened : (said : Bool) (event : Event PlainEntry) (h : History PlainEntry) → Holds (event ▹ h) → Holds h
      → Holds (with_event (event_if said event) h)
  happened p event h x w = grind arith

  accessed : (said : Bool) (a i : ℕ) (e : PlainEntry) (h : History PlainEntry) → CallWithin k e.call → Holds h
      → Holds (with_event (event_if said (Accessed a i e)) h)
  accessed said a i e h x w = grind (arith, happened, by_if, after_call)

  then_holds : (call : PlainCall) (r : PlainReply) (e : PlainEntry) (h : History PlainEntry) → CallWithin k e.call
      → Holds h → Holds (with_event (event_of h call r e) h)
  then_holds p r e h x w = grind (arith, happened, accessed)

  -- what the accesses of those that count leave in an object
  pub seen_within : (s : Opening) (j : List PlainEntry) → CallsWithin k j → ValuesWithin k c → Holds (history s j)
  seen_within s [] x w = w
  seen_within s (e ∷ older) x w = then_holds e.call e.reply e (history s older) x.0 (seen_within s older x.1 w)

-- THE OPENING

option_within : (c : Option PlainContent) → IsReadableContent c → ValuesWithin MAX_VALUE_DEPTH c
option_within p r = grind (arith, parts_within)

-- what an object of the opening holds
pub opened_within : (objects : List (PlainShape × Option PlainContent)) (o : ℕ) → AreReadableObjects objects
    → ValuesWithin MAX_VALUE_DEPTH (content_in objects o)
opened_within [] o r = tt
opened_within (object ∷ objects) zero r = option_within object.1 r.0.within
opened_within (object ∷ objects) (suc o) r = opened_within objects o r.1
