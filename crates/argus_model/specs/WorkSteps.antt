-- A second form of what an action sees and of what is lawful, for proofs: by lists of accesses, and
-- event by event.
use Rattle.std.specs.Prelude.{Bool, List, None, Option, Some, [], false, true, ℕ, ◌∷◌, ◌≡◌}
use Rattle.argus_model.specs.{Ancestors.is_ancestor, Event.{Aborted, Accessed, Began, Committed, origin_parent}}
use Rattle.argus_model.specs.{History.{History, Opened, ◌▹◌}, HolderSteps.may_by_steps, Meaning.{Fits, Meaning}}
use Rattle.argus_model.specs.{OwnerSteps.{AllStand, StandsAlone, owner_by_steps, stands}, Work.{Access, content_after}}
pub use Rattle.argus_model.specs.Work.{accesses_by}

-- there is an owner, and it passes the test
abbrev pub owner_passes : (ℕ → Bool) → Option ℕ → Bool
owner_passes test None = false
owner_passes test (Some x) = test x

-- the accesses that count for a: those of the base, of its ancestors and its own
abbrev pub visible_accesses : {V : Type 0} → History V → ℕ → List (Access V)
visible_accesses h a =
    accesses_by (λ b. owner_passes (λ x. is_ancestor h x a) (owner_by_steps h b)) h

module _ {V C A : Type 0} (meaning : Meaning V C A) (contents : ℕ → C) where
  -- each access, newest first, has the answer that those before it lead to
  abbrev pub Replays : List (Access V) → Type 0
  Replays [] = Unit {0}
  Replays (e ∷ older) =
      Fits meaning e.what (content_after meaning contents e.object older) × Replays older

  -- an access may come next: its lock is free for a, and the answer is what a sees
  pub record LawfulAccess (older : History V) (a o : ℕ) (v : V) : Type 0 where
    pub alone : StandsAlone older a
    pub lock : may_by_steps meaning.writes older a o (meaning.writes v) older ≡ true
    pub answer : Fits meaning v (content_after meaning contents o (visible_accesses older a))

  -- each event was allowed by those before it
  abbrev pub LawfulSteps : History V → Type 0
  LawfulSteps (Opened n) = Unit {0}
  LawfulSteps (Began from ▹ older) = (stands older (origin_parent from) ≡ true) × LawfulSteps older
  LawfulSteps (Committed a ▹ older) = StandsAlone older a × LawfulSteps older
  LawfulSteps (Aborted actions ▹ older) = AllStand older actions × LawfulSteps older
  LawfulSteps (Accessed a o v ▹ older) = LawfulAccess older a o v × LawfulSteps older
