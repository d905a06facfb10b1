-- Whatever counts, what a legal journal leaves in an object fits its shape.
use Rattle.std.proofs.Common.{Bool, List, None, Option, Some, [], arith, length, length-append, refl, suc, true, zero}
use Rattle.std.proofs.{Common.{ℕ, ◌++◌, ◌+◌, ◌∷◌, ◌≡◌}, lemmas.{Bool.Decides.nat_tests, List.length-map}}
use Rattle.std.specs.{List.list_all, Prelude.{if◌then◌else◌, map, slice_get}}
use Rattle.argus_contents.specs.{Change.{PlainChange, outcome}, Content.PlainContent, Fitting.change_suits}
use Rattle.argus_contents.specs.Shape.{PlainShape}
use Rattle.argus_entries.specs.{Call.PlainCall, Entry.PlainEntry, Reply.PlainReply, declared.refusal.Refusal.Refusal}
use Rattle.argus_model.specs.{Contents.replay, Event.Accessed, History.{History, ◌▹◌}}
use Rattle.argus_journal.specs.{Answers.{granted, or_refused, refusal, suits}, Entries.{entries, is_write}}
use Rattle.argus_journal.specs.{Entries.content_after_call, Events.history, Legal.Legal, Objects.declared}
use Rattle.argus_journal.specs.{Objects.{declared_by, shape_of, shapes}, Opening.{Opening, content_in, fits_shape}}
use Rattle.argus_journal.{specs.Opening.is_sound, proofs.Fitting.{fits_more, nothing, outcome_fits, touch_keeps}}
use Rattle.argus_journal.proofs.Legal.{tested, then_event, access_none, free_none, refused_is_none}

-- a content that fits one of the shapes still fits when more are declared
found_still : (xs ys : List PlainShape) (n : ℕ) (o : ℕ) (c : Option PlainContent)
    → fits_shape (slice_get xs o) n c ≡ true → fits_shape (slice_get (xs ++ ys) o) n c ≡ true
found_still xs ys n o None e = refl
found_still [] ys n o (Some c) e = nothing e
found_still (x ∷ xs) ys n zero (Some c) e = e
found_still (x ∷ xs) ys n (suc o) (Some c) e = found_still xs ys n o (Some c) e

still_fits : (xs ys : List PlainShape) (o : ℕ) (c : Option PlainContent)
    → fits_shape (slice_get xs o) (length xs) c ≡ true
    → fits_shape (slice_get (xs ++ ys) o) (length (xs ++ ys)) c ≡ true
still_fits xs ys o c e =
    let more = length-append xs ys in
    fits_more (slice_get (xs ++ ys) o) (length xs) (length (xs ++ ys)) c (omega arith)
    (found_still xs ys (length xs) o c e)

-- the contents of a sound opening fit
opening_fits : (objects : List (PlainShape × Option PlainContent)) (n o : ℕ)
    → list_all (λ object. fits_shape (Some object.0) n object.1) objects ≡ true
    → fits_shape (slice_get (map (λ object. object.0) objects) o) n (content_in objects o) ≡ true
opening_fits [] n o e = refl
opening_fits (object ∷ objects) n zero e = grind (arith, nat_tests)
opening_fits (object ∷ objects) n (suc o) e = grind (arith, nat_tests, opening_fits objects n o)

module _ (counts : ℕ → Bool) (objects : List PlainShape) (o : ℕ) (c : Option PlainContent) where
  abbrev content : History PlainEntry → Option PlainContent
  content h = replay entries counts o c h

  abbrev AllFits : History PlainEntry → Type 0
  AllFits h = fits_shape (slice_get objects o) (length objects) (content h) ≡ true

  -- what is chosen fits, if what may be chosen does
  chosen : (b : Bool) (x y : Option PlainContent)
      → (b ≡ true → fits_shape (slice_get objects o) (length objects) x ≡ true)
      → fits_shape (slice_get objects o) (length objects) y ≡ true
      → fits_shape (slice_get objects o) (length objects) (if b then x else y) ≡ true
  chosen b x y f e = grind (arith, nat_tests)

  -- an access that leaves a fitting content, where it is one to this object
  accessed : (a i : ℕ) (call : PlainCall) (r : PlainReply) (h : History PlainEntry)
      → (i ≡ o → is_write call ≡ true
      → fits_shape (slice_get objects o) (length objects) (content_after_call call (content h)) ≡ true) → AllFits h
      → AllFits (Accessed (a + 1) i (record { call = call; reply = r }) ▹ h)
  accessed a i call r h f w = grind (arith, nat_tests, chosen)

  altered : (x : PlainChange) (s : Option PlainShape) (v : Option PlainContent)
      → suits (λ shape. change_suits shape (length objects) x) s ≡ true → fits_shape s (length objects) v ≡ true
      → fits_shape s (length objects) (outcome x v).0 ≡ true
  altered x s v h e = grind (arith, nat_tests, outcome_fits)

  granted_fits : (s : Opening) (h : History PlainEntry) (call : PlainCall) → refusal h objects call ≡ None → AllFits h
      → AllFits (then_event call (granted s h objects call) h)
  granted_fits s h c e w =
      grind (arith, nat_tests, accessed, altered, free_none h, access_none objects, touch_keeps, nothing, tested)

  answer_fits : (s : Opening) (h : History PlainEntry) (call : PlainCall) (why : Option Refusal)
      → refusal h objects call ≡ why → AllFits h
      → AllFits (then_event call (or_refused why (granted s h objects call)) h)
  answer_fits s h call why e w = grind (arith, nat_tests, granted_fits, refused_is_none)

-- what the accesses of those that count leave in an object fits its shape
pub content_fits : (counts : ℕ → Bool) (s : Opening) (j : List PlainEntry) (o : ℕ) → is_sound s ≡ true → Legal s j
    → fits_shape (shape_of s j o) (declared s j) (replay entries counts o (content_in s.objects o) (history s j)) ≡ true
content_fits counts s [] o sound l =
    rw (length-map s.objects (λ object. object.0)) (opening_fits s.objects (length s.objects) o sound)
content_fits counts s (e ∷ older) o sound l =
    still_fits (shapes s older) (declared_by e.call e.reply) o _
    (rw l.0 (answer_fits counts (shapes s older) o (content_in s.objects o) s (history s older) e.call _ refl
    (content_fits counts s older o sound l.1)))
