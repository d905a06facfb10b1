-- A call that was not refused has values of depth at most 16, if a program can hold it.
use Rattle.std.proofs.{lemmas.Bool.false≢true, Common.{arith, Bool, List, None, Option, Some, [], refl, suc, true}}
use Rattle.std.proofs.Common.{zero, ℕ, ◌++◌, ◌∷◌, ◌≡◌}
use Rattle.std.specs.Prelude.{if◌then◌else◌, map, slice_get}
use Rattle.argus_contents.specs.{Change.PlainChange, Content.PlainContent, Shape.{IsMakeable, PlainShape}}
use Rattle.argus_contents.specs.declared.limits.TheConstants.{MAX_VALUE_DEPTH}
use Rattle.argus_entries.specs.{Call.{PlainCall, alter}, Entry.PlainEntry, Laws.{CallWithin, ChangeWithin}}
use Rattle.argus_entries.specs.{Reply.{PlainReply, refused}, declared.refusal.Refusal.Refusal}
use Rattle.argus_entries.proofs.Suiting.{suiting_depth}
use Rattle.argus_journal.specs.{Answers.{answer, granted, or_refused, refusal, suits}, Events.history}
use Rattle.argus_journal.specs.{Objects.{declared_by, shapes}, Opening.Opening}
use Rattle.argus_journal.proofs.Legal.{access_none, free_none}
use Rattle.argus_reading.specs.Calls.{DeclaresShape}
use Rattle.argus_resume.specs.{ReadableCalls.{HasReadableCall, HaveReadableCalls}, JournalText.AreReadableObjects}

-- SHAPES

-- each of the shapes can be made
abbrev pub AreMakeable : List PlainShape → Type 0
AreMakeable [] = Unit {0}
AreMakeable (shape ∷ shapes) = IsMakeable shape × AreMakeable shapes

more_makeable : (xs ys : List PlainShape) → AreMakeable xs → AreMakeable ys → AreMakeable (xs ++ ys)
more_makeable [] ys m n = n
more_makeable (x ∷ xs) ys m n = (m.0, more_makeable xs ys m.1 n)

opened_makeable : (objects : List (PlainShape × Option PlainContent)) → AreReadableObjects objects
    → AreMakeable (map (λ object. object.0) objects)
opened_makeable [] r = tt
opened_makeable (object ∷ objects) r = (r.0.makeable, opened_makeable objects r.1)

if_named : (b : Bool) (shape : PlainShape) → IsMakeable shape → AreMakeable (if b then shape ∷ [] else [])
if_named p shape m = grind arith

declared_makeable : (call : PlainCall) (r : PlainReply) → DeclaresShape call → AreMakeable (declared_by call r)
declared_makeable p r m = grind (arith, if_named)

-- each shape of the journal
pub shapes_makeable : (s : Opening) (j : List PlainEntry) → AreReadableObjects s.objects → HaveReadableCalls j
    → AreMakeable (shapes s j)
shapes_makeable s [] r h = opened_makeable s.objects r
shapes_makeable s (e ∷ older) r h =
    more_makeable (shapes s older) (declared_by e.call e.reply) (shapes_makeable s older r h.1)
    (declared_makeable e.call e.reply h.0.well_formed.1)

-- the shape of an object, with what it was tested for
record Suited (test : PlainShape → Bool) : Type 0 where
  shape : PlainShape
  makeable : IsMakeable shape
  passes : test shape ≡ true

suited : (test : PlainShape → Bool) (xs : List PlainShape) (o : ℕ) → AreMakeable xs
    → suits test (slice_get xs o) ≡ true → Suited test
suited test [] o m e = absurd (false≢true e)
suited test (x ∷ xs) zero m e = record { shape = x; makeable = m.0; passes = e }
suited test (x ∷ xs) (suc o) m e = suited test xs o m.1 e

-- CALLS

module _ (s : Opening) (older : List PlainEntry) (m : AreMakeable (shapes s older)) where
  change_shallow : (a o k : ℕ) (x : PlainChange) → refusal (history s older) (shapes s older) (alter a o x) ≡ None
      → ChangeWithin k x → ChangeWithin MAX_VALUE_DEPTH x
  change_shallow a o k x e w = grind (arith, free_none, access_none, suited, suiting_depth)

  granted_shallow : (k : ℕ) (call : PlainCall) → refusal (history s older) (shapes s older) call ≡ None
      → CallWithin k call → CallWithin MAX_VALUE_DEPTH call
  granted_shallow k (alter a o x) e w = (w.0, w.1, change_shallow a o k x e w.2)
  granted_shallow k call e w = w

  either_shallow : (k : ℕ) (call : PlainCall) (why : Option Refusal)
      → refusal (history s older) (shapes s older) call ≡ why → CallWithin k call
      → ((x : Refusal) → or_refused why (granted s (history s older) (shapes s older) call) ≡ refused x
      → CallWithin MAX_VALUE_DEPTH call) → CallWithin MAX_VALUE_DEPTH call
  either_shallow k call None e w d = granted_shallow k call e w
  either_shallow k call (Some why) e w d = d why refl

  -- the call of an entry of a legal journal
  pub call_shallow : (e : PlainEntry) → e.reply ≡ answer s older e.call → HasReadableCall e
      → CallWithin MAX_VALUE_DEPTH e.call
  call_shallow e l h = grind (arith, either_shallow)
