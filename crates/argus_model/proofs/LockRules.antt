-- Holders of objects are live, and what the two lock rules require.
use Rattle.std.proofs.{Common.{Bool, true, ℕ, ◌++◌, ◌↔◌, ◌≡◌, arith}, lemmas.Bool.Decides.nat_tests}
use Rattle.std.proofs.lemmas.Bool.{cases_eq}
use Rattle.argus_model.specs.{Ancestors.is_ancestor, Holders.{holders, may_read, may_write, readers, writers}}
use Rattle.argus_model.specs.{History.History, Numbers.contains, Meaning.Meaning, Status.is_live}
use Rattle.argus_model.proofs.{Counting.owner_stands, Numbers.{every_at, every_from, joined, joined_cases, joined_left}}
use Rattle.argus_model.proofs.{HolderSteps.used_by_found, NextHolders.no_base_holder, Standing.{Orderly, at_some}}
use Rattle.argus_model.proofs.{Holders.listed, Live.stands_is_live}

module _ {V C A : Type 0} (meaning : Meaning V C A) where
  holder_lives : (h : History V) → Orderly h → (kind : V → Bool) (o x : ℕ) → contains (holders kind h o) x ≡ true
      → is_live h x ≡ true
  holder_lives h w kind o x m =
      let held = listed kind h w o x m in let live = stands_is_live h w x in let none = no_base_holder kind h o in
      grind (arith, nat_tests, none, used_by_found kind, held, live, owner_stands h w, at_some, cases_eq x 0)

  -- who holds an object is live
  pub holders_live : (h : History V) → Orderly h → (o x : ℕ)
      → contains (readers meaning h o ++ writers meaning h o) x ≡ true → is_live h x ≡ true
  holders_live h w o x m = grind (arith, nat_tests, holder_lives, joined_cases)

  -- an action may read an object where each writer is its ancestor, and only there
  pub read_rule : (h : History V) (a o : ℕ)
      → (may_read meaning h a o ≡ true) ↔ ((x : ℕ) → contains (writers meaning h o) x ≡ true → is_ancestor h x a ≡ true)
  read_rule h a o = grind (arith, nat_tests, every_at, every_from)

  -- an action may write an object where each reader and writer is its ancestor, and only there
  pub write_rule : (h : History V) (a o : ℕ)
      → (may_write meaning h a o ≡ true) ↔
      ((x : ℕ) → contains (readers meaning h o ++ writers meaning h o) x ≡ true → is_ancestor h x a ≡ true)
  write_rule h a o = grind (arith, nat_tests, every_at, joined_cases, every_from, joined_left, joined)
