-- What the entries leave in an object, entry by entry.
use Rattle.std.proofs.Common.{arith, Bool, List, None, Option, Some, [], ap, cond, false, refl, subst, sym, true, ℕ}
use Rattle.std.{proofs.{Common.{◌+◌, ◌-◌, ◌∷◌, ◌≡◌}, lemmas.Bool.Decides.nat_tests}, specs.Prelude.{◌&&◌, ◌==◌}}
use Rattle.argus_actions.specs.declared.action_id.ActionId.{ActionId}
use Rattle.argus_contents.specs.Content.{KeepsLimits, PlainContent}
use Rattle.argus_entries.specs.{Call.PlainCall, Entry.PlainEntry, Reply.PlainReply}
use Rattle.argus_model.specs.{Contents.replay, Event.{Accessed, Event}, History.{History, ◌▹◌}, Owner.counts_for}
use Rattle.argus_model.specs.Owner.{is_base}
use Rattle.argus_journal.specs.{Entries.{entries, is_write, content_after_call}, Legal.Legal, Events.event_if}
use Rattle.argus_journal.specs.{Events.{event_of, history, with_event}, Objects.{declared, shape_of}, Opening.Opening}
use Rattle.argus_journal.specs.{Opening.{content_in, is_sound}, Replaying.{counts_with, replay_next, replayed}}
use Rattle.argus_journal.specs.{Replaying.{counts_by_entries, written_if}, JournalFacts.{base_of, visible_to}}
use Rattle.argus_journal.{specs.declared.owner.Owner.Owner, proofs.{Contents.content_fits, Fitting.fits_keeps}}
use Rattle.argus_journal.proofs.{Kin.{above_told, with_reply}, Shifted.before, OwnersByEntries.model_owner}
use Rattle.argus_journal.proofs.OwnersByEntries.{owner_is_told}

-- one more entry

module _ (counts : ℕ → Bool) (o : ℕ) (v : Option PlainContent) (h : History PlainEntry) where
  abbrev left : Option PlainContent
  left = replay entries counts o v h

  abbrev Next : PlainCall → PlainReply → Type 0
  Next c r = replay entries counts o v (with_event (event_of h c r (with_reply c r)) h)
      ≡ replay_next (λ a. counts (a + 1)) (with_reply c r) o left

  no_write : (b k : Bool) (x y : Option PlainContent) → cond (b && (false && k)) x y ≡ y
  no_write b k x y = grind (arith, nat_tests)

  -- an event that leaves the content, where it happened at all
  skipped : (b : Bool) (event : Event PlainEntry) → replay entries counts o v (event ▹ h) ≡ left
      → replay entries counts o v (with_event (event_if b event) h) ≡ left
  skipped b event e = grind (arith, nat_tests)

  looked : (b : Bool) (c : PlainCall) (r : PlainReply) (a i : ℕ) → is_write c ≡ false
      → replay entries counts o v (with_event (event_if b (Accessed (a + 1) i (with_reply c r))) h) ≡ left
  looked b c r a i w = grind (arith, nat_tests, skipped, with_reply, no_write)

  -- a write, where it happened at all
  wrote : (b : Bool) (c : PlainCall) (r : PlainReply) (a i : ℕ) → is_write c ≡ true
      → replay entries counts o v (with_event (event_if b (Accessed (a + 1) i (with_reply c r))) h)
      ≡ written_if (λ x. counts (x + 1)) (content_after_call c) (cond (i == o && b) (Some (record { 0 = a })) None) left
  wrote b c r a i w = grind (arith, nat_tests)

  next_entry : (c : PlainCall) (r : PlainReply) → Next c r
  next_entry c r = grind (arith, nat_tests, skipped, looked, wrote)

next_same : (p q : ℕ → Bool) → ((a : ℕ) → p a ≡ q a)
    → (e : PlainEntry) (w : Option ActionId) (x y : Option PlainContent) → x ≡ y
    → written_if p (content_after_call e.call) w x ≡ written_if q (content_after_call e.call) w y
next_same p q f e w x y same = grind (arith, nat_tests)

-- what is replayed entry by entry is what the history leaves
pub replayed_is : (s : Opening) (j : List PlainEntry) (reader : Option ActionId) (o : ℕ) (counts : ℕ → Bool)
    → ((a : ℕ) → counts_by_entries s.first_action j reader a ≡ counts (a + 1)) → (rest : List PlainEntry)
    → replayed s j reader o rest ≡ replay entries counts o (content_in s.objects o) (history s rest)
replayed_is s j reader o counts f [] = refl
replayed_is s j reader o counts f (e ∷ older) =
    grind (arith, nat_tests, next_same, next_entry, replayed_is s j reader o counts f older)

pub replayed_keeps : (s : Opening) (j : List PlainEntry) (reader : Option ActionId) (o : ℕ) (rest : List PlainEntry)
    → is_sound s ≡ true → Legal s rest → KeepsLimits (replayed s j reader o rest)
replayed_keeps s j reader o rest sound l =
    let counts = λ (b : ℕ). counts_by_entries s.first_action j reader (b - 1) in
    subst KeepsLimits
    (sym (replayed_is s j reader o counts (λ a. ap (counts_by_entries s.first_action j reader) (sym (before a))) rest))
    (fits_keeps (shape_of s rest o) (declared s rest)
    (replay entries counts o (content_in s.objects o) (history s rest)) (content_fits counts s rest o sound l))

-- for an action, and for good

module _ (s : Opening) (j : List PlainEntry) (l : Legal s j) where
  for_action : (h : ActionId) (q : Option Owner)
      → counts_with j (Some h) q ≡ counts_for (history s j) (h.0 + 1) (model_owner q)
  for_action h q = grind (arith, nat_tests, above_told)

  for_good : (q : Option Owner) → counts_with j None q ≡ is_base (model_owner q)
  for_good q = grind (arith, nat_tests)

  pub replayed_seen : (h : ActionId) (o : ℕ) → replayed s j (Some h) o j ≡ visible_to s j h.0 o
  replayed_seen h o = grind (arith, nat_tests, replayed_is, for_action, owner_is_told)

  pub replayed_base : (o : ℕ) → replayed s j None o j ≡ base_of s j o
  replayed_base o = grind (arith, nat_tests, replayed_is, for_good, owner_is_told)
