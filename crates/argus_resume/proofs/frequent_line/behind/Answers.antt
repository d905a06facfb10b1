-- What the strip of a slice says of bytes.
use Rattle.std.proofs.Common.{IfSome, List, ◌++◌, ◌≡◌, ◌≢◌, ℕ, Bor, Option, Some, None}
use Rattle.std.proofs.{lemmas.Bool.Decides.Decides-eqb, lemmas.Slice.Eq.strip_prefix_is}
use Rattle.std.specs.Prelude.{MatchOption}
use Rattle.argus_resume.proofs.frequent_line.behind.Goals as goal

where_some : (s p : List ℕ) (r : Option (Bor (List ℕ)))
    → MatchOption r ((rest : List ℕ) → s ≢ p ++ rest) (λ x. s ≡ p ++ x.now) → IfSome r (λ x. s ≡ p ++ x.now)
where_some s p None h = tt
where_some s p (Some x) h = h

pub returns : goal.returns
returns c = where_some c.args.text.now c.args.word.now c.strip_prefix.result
    (strip_prefix_is Decides-eqb c.args.text.now c.args.word.now c.strip_prefix.result c.strip_prefix.ensures.cases)
