-- What a legal journal says happened was allowed.
use Rattle.std.proofs.Common.{arith, Bool, List, None, Option, Some, [], cond, false, refl, true, ℕ, ◌+◌, ◌∷◌, ◌≡◌}
use Rattle.std.proofs.lemmas.Bool.Decides.{nat_tests}
use Rattle.argus_contents.specs.{Answer.flag, Shape.PlainShape}
use Rattle.argus_entries.specs.{Call.{PlainCall, test_read, test_write}, Entry.PlainEntry, Reply.{PlainReply, answered}}
use Rattle.argus_entries.specs.{Reply.refused, declared.refusal.Refusal.{Refusal, TheVariants.{Conflict, IllTyped}}}
use Rattle.argus_model.specs.{Event.Accessed, History.{History, ◌▹◌}, Lawful.Lawful, Status.{has_live_child, is_live}}
use Rattle.argus_model.proofs.Live.{siblings_live}
use Rattle.argus_journal.specs.Answers.{granted, if_declared, if_free, if_live, or_refused, refusal, unless}
use Rattle.argus_journal.specs.{Entries.entries, Legal.Legal, Events.{event_of, history, with_event}, Objects.shapes}
use Rattle.argus_journal.specs.Opening.{Opening, model_opening}

-- where nothing is refused, the test holds and the rest refuses nothing
pub unless_none : (test : Bool) (why : Refusal) (rest : Option Refusal) → unless test why rest ≡ None
    → (test ≡ true) × (rest ≡ None)
unless_none test why rest e = grind (arith, nat_tests)

pub live_none : (h : History PlainEntry) (a : ℕ) (rest : Option Refusal) → if_live h a rest ≡ None
    → (is_live h (a + 1) ≡ true) × (rest ≡ None)
live_none h a rest e = grind (arith, nat_tests)

pub record Free (h : History PlainEntry) (a : ℕ) (rest : Option Refusal) : Type 0 where
  pub live : is_live h (a + 1) ≡ true
  pub childless : has_live_child h (a + 1) ≡ false
  pub none : rest ≡ None

pub free_none : (h : History PlainEntry) (a : ℕ) (rest : Option Refusal) → if_free h a rest ≡ None → Free h a rest
free_none h a rest e = grind (arith, nat_tests, live_none)

-- what holds where an access isn't refused: it suits the object's shape, and its lock is free
pub record Fits (test free : Bool) : Type 0 where
  pub suits : test ≡ true
  pub lock : free ≡ true

pub access_none : (shapes : List PlainShape) (o : ℕ) (test lock : Bool)
    → if_declared shapes o (unless test IllTyped (unless lock Conflict None)) ≡ None → Fits test lock
access_none shapes o test lock e = grind (arith, nat_tests)

-- the history after one more entry of this call and reply
abbrev pub then_event : PlainCall → PlainReply → History PlainEntry → History PlainEntry
then_event c r h = with_event (event_of h c r (record { call = c; reply = r })) h

-- a refused call is no event
pub refused_is_none : (h : History PlainEntry) (c : PlainCall) (why : Refusal) (e : PlainEntry)
    → event_of h c (refused why) e ≡ None
refused_is_none h c why e = grind (arith, nat_tests)

-- a test is an event where it says yes
pub tested : (P : History PlainEntry → Type 0) (h : History PlainEntry) (a o : ℕ) (t : Bool) (c : PlainCall)
    → ((x : Bool) (e : PlainEntry) → event_of h c (answered (flag x)) e ≡ cond x (Some (Accessed (a + 1) o e)) None)
    → (t ≡ true → P (Accessed (a + 1) o (record { call = c; reply = answered (flag true) }) ▹ h)) → P h
    → P (then_event c (answered (flag t)) h)
tested P h a o t c ev holds w = grind (arith, nat_tests)

pub test_read_event : (h : History PlainEntry) (a o : ℕ) (x : Bool) (e : PlainEntry)
    → event_of h (test_read a o) (answered (flag x)) e ≡ cond x (Some (Accessed (a + 1) o e)) None
test_read_event h a o x e = refl

pub test_write_event : (h : History PlainEntry) (a o : ℕ) (x : Bool) (e : PlainEntry)
    → event_of h (test_write a o) (answered (flag x)) e ≡ cond x (Some (Accessed (a + 1) o e)) None
test_write_event h a o x e = refl

abbrev IsLawful : Opening → History PlainEntry → Type 0
IsLawful s h = Lawful entries (model_opening s) h

granted_step : (s : Opening) (h : History PlainEntry) (objects : List PlainShape) (c : PlainCall) → IsLawful s h
    → refusal h objects c ≡ None → IsLawful s (then_event c (granted s h objects c) h)
granted_step s h objects c w e =
    grind (arith, nat_tests, live_none h, free_none h, access_none objects, siblings_live h, tested)

answered_step : (s : Opening) (h : History PlainEntry) (objects : List PlainShape) (c : PlainCall)
    (why : Option Refusal) → refusal h objects c ≡ why → IsLawful s h
    → IsLawful s (then_event c (or_refused why (granted s h objects c)) h)
answered_step s h objects c why e w = grind (arith, nat_tests, granted_step, refused_is_none)

-- a legal journal tells a lawful history
pub lawful : (s : Opening) (j : List PlainEntry) → Legal s j → Lawful entries (model_opening s) (history s j)
lawful s [] l = refl
lawful s (e ∷ older) l = grind (arith, nat_tests, answered_step s, lawful s older l.1)
