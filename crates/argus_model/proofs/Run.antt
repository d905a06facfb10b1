-- A list that replays, newest first, gives its answers again, oldest first.
use Rattle.std.proofs.{Common.{List, [], refl, subst, sym, ℕ, ◌++◌, ◌∷◌, ◌≡◌, arith}, lemmas.Bool.Decides.nat_tests}
use Rattle.std.proofs.lemmas.List.{reverse-append}
use Rattle.std.specs.Prelude.{reverse}
use Rattle.argus_model.specs.{Meaning.{Fits, Meaning}, WorkSteps.Replays}
use Rattle.argus_model.specs.{Run.{AnswersAgain, after_access, run}, Work.{Access, content_after, content_before}}

module _ {V C A : Type 0} (meaning : Meaning V C A) (contents : ℕ → C) where
  run-more : (s : ℕ → C) (es : List (Access V)) (e : Access V) (o : ℕ)
      → run meaning s (es ++ e ∷ []) o ≡ after_access meaning (run meaning s es) e o
  run-more s [] e o = refl
  run-more s (x ∷ es) e o = run-more (after_access meaning s x) es e o

  -- a run leaves in each object what its accesses leave there
  pub run_content : (es : List (Access V)) (o : ℕ)
      → run meaning contents (reverse es) o ≡ content_after meaning contents o es
  run_content [] o = refl
  run_content (e ∷ es) o =
      grind (arith, nat_tests, reverse-append (e ∷ []) es, run-more contents (reverse es) e o, run_content es o)

  runs-more : (s : ℕ → C) (es : List (Access V)) (e : Access V) → AnswersAgain meaning s es
      → Fits meaning e.what (run meaning s es e.object) → AnswersAgain meaning s (es ++ e ∷ [])
  runs-more s [] e r f = (f, tt)
  runs-more s (x ∷ es) e r f = (r.0, runs-more (after_access meaning s x) es e r.1 f)

  -- accesses that replay give their answers again when they are run
  pub runs : (es : List (Access V)) → Replays meaning contents es → AnswersAgain meaning contents (reverse es)
  runs [] r = tt
  runs (e ∷ es) r =
      subst (λ l. AnswersAgain meaning contents l) (sym (reverse-append (e ∷ []) es))
      (runs-more contents (reverse es) e (runs es r.1)
      (subst (λ c. Fits meaning e.what c) (sym (run_content es e.object)) r.0))

  -- each access is answered by what went before it
  pub replays_at : (later : List (Access V)) (e : Access V) (earlier : List (Access V))
      → Replays meaning contents (later ++ e ∷ earlier)
      → Fits meaning e.what (content_before meaning contents e earlier)
  replays_at [] e earlier r = r.0
  replays_at (x ∷ later) e earlier r = replays_at later e earlier r.1
