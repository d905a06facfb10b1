-- What an action sees, and the base, are what the accesses that count for it leave.
use Rattle.std.proofs.{Common.{Bool, false, refl, true, ℕ, ◌≡◌, arith}, lemmas.Bool.Decides.nat_tests}
use Rattle.std.proofs.lemmas.Bool.{cases_eq}
use Rattle.argus_model.specs.{Ancestors.is_ancestor, HolderSteps.has_used, Numbers.contains, Work.content_after}
use Rattle.argus_model.specs.{Contents.{base, replay, sees}, Event.{Aborted, Accessed, Began, Committed}}
use Rattle.argus_model.specs.{Holders.writers, Meaning.Meaning}
use Rattle.argus_model.specs.{History.{History, Opened, HistoryOpening, ◌▹◌}, WorkSteps.{accesses_by, visible_accesses}}
use Rattle.argus_model.proofs.{Contents.accesses_by_agree, Owner.{base_above, counts_for_is, is_base_is, owner_is}}
use Rattle.argus_model.proofs.HolderSteps.{used_by_from}
use Rattle.argus_model.proofs.{Standing.{Orderly, some_at}, Holders.{contains_holders, has_used_begun_action}}

module _ {V C A : Type 0} (meaning : Meaning V C A) (opening : HistoryOpening C) where
  replay_is : (kept t : ℕ → Bool) (o : ℕ) (k : History V)
      → ((a : ℕ) → has_used meaning.writes k a o false ≡ true → kept a ≡ t a)
      → replay meaning kept o (opening.contents o) k ≡ content_after meaning opening.contents o (accesses_by t k)
  replay_is kept t o (Opened n) same = refl
  replay_is kept t o (Accessed b o' v ▹ k) same = grind (arith, nat_tests, replay_is kept t o k)
  replay_is kept t o (_ ▹ k) same = replay_is kept t o k same

  -- an action sees what the accesses that count for it leave
  pub sees_is : (h : History V) → Orderly h → (y o : ℕ)
      → sees meaning opening h y o ≡ content_after meaning opening.contents o (visible_accesses h y)
  sees_is h w y o = grind (arith, nat_tests, replay_is, owner_is, has_used_begun_action, counts_for_is)

  -- there for good is what the accesses that count for the base leave
  pub base_is : (h : History V) → Orderly h → (o : ℕ)
      → base meaning opening h o ≡ content_after meaning opening.contents o (visible_accesses h 0)
  base_is h w o =
      grind (arith, nat_tests, replay_is, owner_is h w, has_used_begun_action meaning.writes h w, is_base_is h)

  -- two actions see the same in an object where the same of its writers are ancestors of both
  pub sees_same : (h : History V) → Orderly h → (x y o : ℕ)
      → ((z : ℕ) → contains (writers meaning h o) z ≡ true → is_ancestor h z x ≡ is_ancestor h z y)
      → sees meaning opening h x o ≡ sees meaning opening h y o
  sees_same h w x y o f =
      grind (
        arith,
        nat_tests,
        sees_is,
        accesses_by_agree,
        base_above,
        contains_holders,
        used_by_from,
        some_at,
        cases_eq,
      )
