-- Whose work has accesses to which objects, and that the work of an action that is over stays.
use Rattle.std.proofs.Common.{Bool, List, Some, [], ap, append_assoc, arith, false, inl, inr, refl, sym, true, ℕ, ◌++◌}
use Rattle.std.proofs.{Common.{◌∙◌, ◌∷◌, ◌≡◌, ◌≢◌, ◌≤◌, ◌⊎◌}, lemmas.Bool.{cases_Bool, false≢true}}
use Rattle.std.proofs.lemmas.Bool.Decides.{nat_tests}
use Rattle.std.specs.Prelude.{◌&&◌, ◌==◌, ◌||◌}
use Rattle.argus_model.specs.{Ancestors.parent, HolderSteps.has_used, OwnerSteps.{is_exactly, owner_by_steps, stands}}
use Rattle.argus_model.specs.{Event.{Aborted, Accessed, Began, Committed, Event, Origin}, Work.{Access, all_of, work}}
use Rattle.argus_model.specs.{History.{History, Opened, next_action, ◌▹◌}, Numbers.contains}
use Rattle.argus_model.proofs.Exclusion.{has_used_more}
use Rattle.argus_model.proofs.Standing.{Orderly, owned_begun, owner_cases, parent_begun, parent_is, parents_are_older}
use Rattle.argus_model.proofs.Standing.{stands_begun, stands_commit, stands_old, stands_upward}

-- what has not begun has done nothing
pub no_work : {V : Type 0} (h : History V) → Orderly h → (y : ℕ) → next_action h ≤ y → work h y ≡ []
no_work (Opened n) w y l = refl
no_work (Began from ▹ h) w y l = no_work h w.1 y (omega arith)
no_work (Committed s ▹ h) w y l = grind (arith, nat_tests, parent_begun, parents_are_older, no_work h w.1 y l)
no_work (Aborted z ▹ h) w y l = no_work h w.1 y l
no_work (Accessed a o v ▹ h) w y l = grind (arith, nat_tests, stands_begun, no_work h w.1 y l)

-- the work of what doesn't stand stays as it is
pub work_final : {V : Type 0} (h : History V) (e : Event V) → Orderly (e ▹ h) → (y : ℕ) → stands h y ≡ false
    → work (e ▹ h) y ≡ work h y
work_final h (Committed s) w y n = grind (arith, nat_tests, parents_are_older, stands_upward, parent_is)
work_final h (Accessed a o v) w y n = grind (arith, nat_tests)
work_final h _ w y n = refl

-- all of joined lists is all of the first, then all of the second
pub all_of-append : {X : Type 0} (f : ℕ → List X) (ys zs : List ℕ) → all_of f (ys ++ zs) ≡ all_of f ys ++ all_of f zs
all_of-append f [] zs = refl
all_of-append f (y ∷ ys) zs =
    ap (λ u. f y ++ u) (all_of-append f ys zs) ∙ sym (append_assoc (f y) (all_of f ys) (all_of f zs))

-- functions that agree on each of a list give the same of all
pub all_of_agree : {X : Type 0} (f g : ℕ → List X) (ys : List ℕ) → ((y : ℕ) → contains ys y ≡ true → f y ≡ g y)
    → all_of f ys ≡ all_of g ys
all_of_agree f g [] a = refl
all_of_agree f g (y ∷ ys) a = grind (arith, nat_tests, all_of_agree f g ys)

module _ {V : Type 0} (writes : V → Bool) where
  -- some access in the list is to the object, of those that write or of all
  abbrev pub touches : List (Access V) → ℕ → Bool → Bool
  touches [] o all = false
  touches (e ∷ es) o all = (e.object == o && (all || writes e.what)) || touches es o all

  -- what joined lists touch, one of them does
  pub touches-append : (es fs : List (Access V)) (o : ℕ) (all : Bool) → touches (es ++ fs) o all ≡ true
      → (touches es o all ≡ true) ⊎ (touches fs o all ≡ true)
  touches-append [] fs o all m = inr m
  touches-append (e ∷ es) fs o all m = grind (arith, nat_tests, touches-append es fs o all)

  -- accesses none of which is to the object don't write it
  pub touches_all : (es : List (Access V)) (o : ℕ) → touches es o true ≡ false → touches es o false ≡ false
  touches_all [] o n = refl
  touches_all (e ∷ es) o n = grind (arith, nat_tests, touches_all es o)

  -- one of these numbers, for which the function gives an access to the object
  pub record Toucher (f : ℕ → List (Access V)) (ys : List ℕ) (o : ℕ) (all : Bool) : Type 0 where
    pub by : ℕ
    pub among : contains ys by ≡ true
    pub touch : touches (f by) o all ≡ true

  -- where all that the function gives has an access to the object, what it gives of one number has
  pub touches-all_of : (f : ℕ → List (Access V)) (ys : List ℕ) (o : ℕ) (all : Bool) → touches (all_of f ys) o all ≡ true
      → Toucher f ys o all
  touches-all_of f [] o all m = absurd (false≢true m)
  touches-all_of f (y ∷ ys) o all m =
      grind (arith, nat_tests, touches-all_of f ys o all, touches-append (f y) (all_of f ys) o all m)

  -- an action by which y holds the object
  pub record User (h : History V) (y o : ℕ) (all : Bool) : Type 0 where
    pub action : ℕ
    pub uses : has_used writes h action o all ≡ true
    pub owned : owner_by_steps h action ≡ Some y

  user_begin : (h : History V) (from : Origin) (y o : ℕ) (all : Bool) → User h y o all → User (Began from ▹ h) y o all
  user_begin h from y o all user = grind (arith, nat_tests, owned_begun, owner_cases)

  -- after the commit of a child, its parent holds the object by what the child held it by
  user_handed : (h : History V) (child y o : ℕ) (all : Bool) → parent h child ≡ y → User h child o all
      → User (Committed child ▹ h) y o all
  user_handed h child y o all is_parent user = grind (arith, nat_tests)

  -- the commit of a child leaves by what another holds the object
  user_kept : (h : History V) (child y o : ℕ) (all : Bool) → y ≢ child → User h y o all
      → User (Committed child ▹ h) y o all
  user_kept h child y o all another user = grind (arith, nat_tests)

  -- what stands and has an access to the object in its work answers for who made it
  pub user_of : (h : History V) → Orderly h → (y o : ℕ) (all : Bool) → stands h y ≡ true
      → touches (work h y) o all ≡ true → User h y o all
  user_of (Opened before) orderly y o all standing touched = absurd (false≢true touched)
  user_of (Began from ▹ h) orderly y o all standing touched =
      grind (arith, nat_tests, no_work, stands_old, user_begin, user_of h orderly.1 y o all)
  user_of (Committed child ▹ h) orderly y o all standing touched =
      grind (
        arith,
        nat_tests,
        parents_are_older h orderly.1,
        stands_upward h orderly.1,
        stands_commit h,
        user_kept h child y o all,
        user_of h orderly.1 y o all,
        touches-append (work h child) (work h y) o all,
        user_handed h child y o all,
        user_of h orderly.1 child o all orderly.0.standing,
      )
  user_of (Aborted actions ▹ h) orderly y o all standing touched = grind (arith, nat_tests, user_of h orderly.1 y o all)
  user_of (Accessed accessor accessed what ▹ h) orderly y o all standing touched =
      grind (arith, nat_tests, user_of h orderly.1 y o all standing)

  -- an action that wrote the object in `older`, for which the owner answers
  abbrev Writer : History V → History V → ℕ → ℕ → Type 0
  Writer h older owner o =
      (a : ℕ) × (has_used writes older a o false ≡ true) × (owner_by_steps h a ≡ Some owner)

  abbrev NoWriter : History V → History V → ℕ → ℕ → Type 0
  NoWriter h older owner o = (a : ℕ) → has_used writes older a o false ≡ true → owner_by_steps h a ≢ Some owner

  module _ (h older : History V) (accessor accessed : ℕ) (what : V) (owner o : ℕ) where
    -- this access writes the object, and the owner answers for it
    abbrev writes_now : Bool
    writes_now = (accessed == o && (false || writes what)) && is_exactly (owner_by_steps h accessor) owner

    writer_now : writes_now ≡ true → Writer h (Accessed accessor accessed what ▹ older) owner o
    writer_now now = grind (arith, nat_tests)

    no_writer : writes_now ≡ false → NoWriter h older owner o
        → NoWriter h (Accessed accessor accessed what ▹ older) owner o
    no_writer off none a wrote owned = grind (arith, nat_tests)

  -- there is a writer in k that s answers for, or none
  pub find_writer : (h k : History V) (s o : ℕ)
      → ((a : ℕ) × (has_used writes k a o false ≡ true) × (owner_by_steps h a ≡ Some s))
      ⊎ ((a : ℕ) → has_used writes k a o false ≡ true → owner_by_steps h a ≢ Some s)
  find_writer h (Opened before) s o = inr (λ a wrote owned. false≢true wrote)
  find_writer h (Accessed accessor accessed what ▹ older) s o =
      elim (find_writer h older s o) [
        | inl found ↦
            inl (found.0, has_used_more writes older accessor accessed what found.0 o false found.1, found.2)
        | inr none ↦ elim (cases_Bool (writes_now h older accessor accessed what s o)) [
          | inl now ↦ inl (writer_now h older accessor accessed what s o now)
          | inr off ↦ inr (no_writer h older accessor accessed what s o off none)
        ]
      ]
  find_writer h (_ ▹ older) s o = find_writer h older s o
