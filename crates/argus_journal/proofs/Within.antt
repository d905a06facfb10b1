-- Objects and actions stay within the limits.
use Rattle.std.proofs.Common.{List, None, Option, [], arith, length, length-append, nat_lt, subst, sym, true, ℕ, ◌++◌}
use Rattle.std.proofs.{Common.{◌+◌, ◌-◌, ◌<◌, ◌∷◌, ◌≡◌, ◌≤◌}, lemmas.{Bool.Decides.nat_tests, List.append-nil}}
use Rattle.std.proofs.lemmas.List.{length-map}
use Rattle.argus_contents.specs.{Shape.PlainShape, declared.limits.TheConstants.{MAX_ACTIONS, MAX_OBJECTS}}
use Rattle.argus_entries.specs.{Call.{PlainCall, declare}, Entry.PlainEntry, Reply.refused}
use Rattle.argus_entries.specs.declared.refusal.Refusal.{Refusal, TheVariants.TooMany}
use Rattle.argus_model.specs.History.{History, next_action}
use Rattle.argus_journal.specs.{Answers.{granted, if_room, or_refused, refusal}, Events.history, Legal.Legal}
use Rattle.argus_journal.{specs.{Objects.{declared, declared_by}, Opening.Opening}, proofs.Legal.live_none}
use Rattle.argus_journal.proofs.Legal.{refused_is_none, test_read_event, test_write_event, tested, then_event}
use Rattle.argus_journal.proofs.Legal.{unless_none}

below : (m n : ℕ) → nat_lt m n ≡ true → m < n
below m n e = grind (arith, nat_tests)

-- objects

one_more : (xs : List PlainShape) (x : PlainShape) → length xs < MAX_OBJECTS → length (xs ++ x ∷ []) ≤ MAX_OBJECTS
one_more xs x lt = let n = length-append xs (x ∷ []) in omega arith

same : (xs : List PlainShape) → length xs ≤ MAX_OBJECTS → length (xs ++ []) ≤ MAX_OBJECTS
same xs le = subst (λ ys. length ys ≤ MAX_OBJECTS) (sym (append-nil xs)) le

objects_step : (s : Opening) (h : History PlainEntry) (xs : List PlainShape) (c : PlainCall) → refusal h xs c ≡ None
    → length xs ≤ MAX_OBJECTS → length (xs ++ declared_by c (granted s h xs c)) ≤ MAX_OBJECTS
objects_step s h xs (declare x) e le =
    one_more xs x (below (length xs) MAX_OBJECTS (unless_none (nat_lt (length xs) MAX_OBJECTS) TooMany None e).0)
objects_step s h xs _ e le = same xs le

refused_declares : (c : PlainCall) (why : Refusal) → declared_by c (refused why) ≡ []
refused_declares c why = grind (arith, nat_tests)

objects_answer : (s : Opening) (h : History PlainEntry) (xs : List PlainShape) (c : PlainCall) (why : Option Refusal)
    → refusal h xs c ≡ why → length xs ≤ MAX_OBJECTS
    → length (xs ++ declared_by c (or_refused why (granted s h xs c))) ≤ MAX_OBJECTS
objects_answer s h xs c why e le = grind (arith, nat_tests, objects_step, refused_declares, same)

pub objects_within : (s : Opening) (j : List PlainEntry) → length s.objects ≤ MAX_OBJECTS → Legal s j
    → declared s j ≤ MAX_OBJECTS
objects_within s [] le l = subst (λ n. n ≤ MAX_OBJECTS) (sym (length-map s.objects (λ object. object.0))) le
objects_within s (e ∷ older) le l = grind (arith, nat_tests, objects_answer, objects_within s older le l.1)

-- actions

abbrev Within : History PlainEntry → Type 0
Within h = next_action h ≤ MAX_ACTIONS + 1

room_left : (h : History PlainEntry) → if_room h ≡ None → next_action h + 1 ≤ MAX_ACTIONS + 1
room_left h e = grind (arith, nat_tests, below)

actions_step : (s : Opening) (h : History PlainEntry) (xs : List PlainShape) (c : PlainCall) → refusal h xs c ≡ None
    → Within h → Within (then_event c (granted s h xs c) h)
actions_step s h xs c e w = grind (arith, nat_tests, room_left, live_none, tested, test_read_event, test_write_event)

actions_answer : (s : Opening) (h : History PlainEntry) (xs : List PlainShape) (c : PlainCall) (why : Option Refusal)
    → refusal h xs c ≡ why → Within h → Within (then_event c (or_refused why (granted s h xs c)) h)
actions_answer s h xs c why e w = grind (arith, nat_tests, actions_step, refused_is_none)

pub actions_within : (s : Opening) (j : List PlainEntry) → s.first_action ≤ MAX_ACTIONS → Legal s j
    → next_action (history s j) ≤ MAX_ACTIONS + 1
actions_within s [] le l = omega arith
actions_within s (e ∷ older) le l = grind (arith, nat_tests, then_event, actions_answer, actions_within s older le l.1)
