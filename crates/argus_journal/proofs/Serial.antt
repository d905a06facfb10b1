-- The serial runs and the effects of a legal journal.
use Rattle.std.proofs.Common.{arith, Bool, List, None, Option, Some, [], append-nil, sym, ℕ, ◌++◌, ◌+◌, ◌∷◌, ◌≡◌}
use Rattle.std.proofs.lemmas.Bool.Decides.{nat_tests}
use Rattle.argus_contents.specs.Content.{PlainContent}
use Rattle.argus_entries.specs.Call.{PlainCall, abort, abort_others, alter, ask, begin_nested, begin_sub, begin_top}
use Rattle.argus_entries.specs.{Call.{commit, declare, test_read, test_write}, Entry.PlainEntry, Reply.PlainReply}
use Rattle.argus_entries.specs.Reply.{answered}
use Rattle.argus_model.specs.{Effects.effects, Event.{Accessed, Event}, History.{History, ◌▹◌}, Lawful.Lawful}
use Rattle.argus_model.{specs.Work.{Access, IsOnRecord}, proofs.Commits.effects_step}
use Rattle.argus_journal.specs.{Effects.added_by, Entries.{entries, answer_at_content}, Events.{with_event, event_if}}
use Rattle.argus_journal.specs.{Events.{event_of, happens, history}, Legal.Legal, Opening.{Opening, model_opening}}
use Rattle.argus_journal.{specs.{Serial.IsAnsweredAt, JournalFacts.effects_of}, proofs.Legal.lawful}

-- what one more entry adds to the effects

one_more : (s : Opening) (j : List PlainEntry) (e : Option (Event PlainEntry))
    → Lawful entries (model_opening s) (with_event e (history s j))
    → effects entries (model_opening s) (with_event e (history s j)) ≡ effects_of s j ++ added_by s e j
one_more s j None l = sym (append-nil (effects_of s j))
one_more s j (Some e) l = effects_step entries (model_opening s) (history s j) e l

pub effects_added : (s : Opening) (e : PlainEntry) (j : List PlainEntry) → Legal s (e ∷ j)
    → effects_of s (e ∷ j) ≡ effects_of s j ++ added_by s (happens s e j) j
effects_added s e j l = one_more s j (happens s e j) (lawful s (e ∷ j) l)

-- each access on record is of the object that its call names

abbrev pub IsAccessOf : PlainCall → ℕ → Type 0
IsAccessOf (ask a o q) i = i ≡ o
IsAccessOf (alter a o x) i = i ≡ o
IsAccessOf (test_read a o) i = i ≡ o
IsAccessOf (test_write a o) i = i ≡ o
IsAccessOf (declare x) i = ⊥
IsAccessOf begin_top i = ⊥
IsAccessOf (begin_sub p) i = ⊥
IsAccessOf (begin_nested p) i = ⊥
IsAccessOf (commit a) i = ⊥
IsAccessOf (abort a) i = ⊥
IsAccessOf (abort_others a) i = ⊥

module _ (P : PlainEntry → ℕ → Type 0) (x : Access PlainEntry) where
  -- an event that is no access
  passed : (b : Bool) (event : Event PlainEntry) (h : History PlainEntry) → (IsOnRecord (event ▹ h) x → IsOnRecord h x)
      → (IsOnRecord h x → P x.what x.object) → IsOnRecord (with_event (event_if b event) h) x → P x.what x.object
  passed b event h same f m = grind (arith, nat_tests)

  met : (b : Bool) (a o : ℕ) (v : PlainEntry) (h : History PlainEntry) → P v o → (IsOnRecord h x → P x.what x.object)
      → IsOnRecord (with_event (event_if b (Accessed a o v)) h) x → P x.what x.object
  met b a o v h here f m = grind (arith, nat_tests)

abbrev Named : PlainEntry → ℕ → Type 0
Named v i = IsAccessOf v.call i

named_step : (c : PlainCall) (r : PlainReply) (h : History PlainEntry) (x : Access PlainEntry)
    → (IsOnRecord h x → Named x.what x.object)
    → IsOnRecord (with_event (event_of h c r (record { call = c; reply = r })) h) x → Named x.what x.object
named_step c r h x f m = grind (arith, nat_tests, passed, met)

pub access_named : (s : Opening) (j : List PlainEntry) (x : Access PlainEntry) → IsOnRecord (history s j) x
    → IsAccessOf x.what.call x.object
access_named s [] x m = absurd m
access_named s (e ∷ older) x m = named_step e.call e.reply (history s older) x (access_named s older x) m

-- an access of the object that its call names, answered as the content says
pub answered_at : (c : PlainCall) (r : PlainReply) (i : ℕ) (v : Option PlainContent) → IsAccessOf c i
    → r ≡ answered (answer_at_content c v) → IsAnsweredAt c r i v
answered_at c r i v n e = grind (arith, nat_tests)
