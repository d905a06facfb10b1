-- What a list of accesses leaves in an object.
use Rattle.std.proofs.Common.{Bool, List, [], ap, cond, false, refl, true, ℕ, ◌++◌, ◌∷◌, ◌≡◌, arith}
use Rattle.std.proofs.lemmas.Bool.Decides.{nat_tests}
use Rattle.std.specs.Prelude.{◌&&◌, ◌==◌, ◌||◌}
use Rattle.argus_model.specs.{Event.{Aborted, Accessed, Began, Committed}, WorkSteps.{Replays, accesses_by}}
use Rattle.argus_model.specs.{History.{History, Opened, ◌▹◌}, HolderSteps.has_used, Work.{Access, content_after}}
use Rattle.argus_model.specs.Meaning.{Meaning}
use Rattle.argus_model.proofs.Work.{touches}

module _ {V C A : Type 0} (meaning : Meaning V C A) (contents : ℕ → C) where
  -- where two lists leave the same in an object, they do so with the same later accesses, too
  pub content_front : (o : ℕ) (es fs gs : List (Access V))
      → content_after meaning contents o fs ≡ content_after meaning contents o gs
      → content_after meaning contents o (es ++ fs) ≡ content_after meaning contents o (es ++ gs)
  content_front o [] fs gs e = e
  content_front o (x ∷ es) fs gs e =
      ap (λ c. cond (x.object == o) (meaning.after x.what c) c) (content_front o es fs gs e)

  -- accesses that don't write the object leave it as it was
  pub content_past : (o : ℕ) (es fs : List (Access V)) → touches meaning.writes es o false ≡ false
      → content_after meaning contents o (es ++ fs) ≡ content_after meaning contents o fs
  content_past o [] fs n = refl
  content_past o (x ∷ es) fs n = grind (arith, nat_tests, content_past o es fs)

  -- two tests that pick the same writers of an object leave the same in it
  pub accesses_by_agree : (o : ℕ) (t u : ℕ → Bool) (k : History V)
      → ((a : ℕ) → has_used meaning.writes k a o false ≡ true → t a ≡ u a)
      → content_after meaning contents o (accesses_by t k) ≡ content_after meaning contents o (accesses_by u k)
  accesses_by_agree o t u (Opened n) same = refl
  accesses_by_agree o t u (Accessed b o' v ▹ k) same = grind (arith, nat_tests, accesses_by_agree o t u k)
  accesses_by_agree o t u (_ ▹ k) same = accesses_by_agree o t u k same

  -- a block that replays after fs does after gs, where gs replays and leaves what the block touches alike
  pub replays_on : (es fs gs : List (Access V))
      → ((o : ℕ) → touches meaning.writes es o true ≡ true
      → content_after meaning contents o fs ≡ content_after meaning contents o gs) → Replays meaning contents (es ++ fs)
      → Replays meaning contents gs → Replays meaning contents (es ++ gs)
  replays_on [] fs gs same r s = s
  replays_on (x ∷ es) fs gs same r s = grind (arith, nat_tests, content_front, replays_on es fs gs)
