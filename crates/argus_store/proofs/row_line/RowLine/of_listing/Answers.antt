use Rattle.std.proofs.Common.{◌≡◌, ◌∙◌, ℕ, Result, Ok, Err, ap, map, refl, sym, subst}
use Rattle.std.specs.Result.{result_ok}
use Rattle.argus_store.specs.{RowLine.{HaveLines, as_line, or_in_batch, place}, declared.row_line.RowLine.RowLine}
use Rattle.argus_store.proofs.Chains.{lines_have, batches_have}
use Rattle.argus_store.proofs.row_line.RowLine.of_listing.Goals as goal

same_place : (r : Result RowLine ℕ) → result_ok r ≡ place r
same_place (Ok it) = refl
same_place (Err line) = refl

pub returns-in-Ok : goal.returns-in-Ok
returns-in-Ok c j opening batches = ap (or_in_batch j.batches) (sym c.in-Ok.is ∙ c.line_among.ensures j.opening
    (subst (λ rows. HaveLines rows j.opening) (sym opening) (lines_have j.opening)))

pub returns-in-Err : goal.returns-in-Err
returns-in-Err c j opening batches = c.ok.ensures.value ∙ same_place c.line_among-in-Err.result
    ∙ ap place (c.line_among-in-Err.ensures (map as_line j.batches)
    (subst (λ rows. HaveLines rows (map as_line j.batches)) (sym batches) (batches_have j.batches)))
    ∙ ap (or_in_batch j.batches) (sym c.in-Err.is ∙ c.line_among.ensures j.opening
    (subst (λ rows. HaveLines rows j.opening) (sym opening) (lines_have j.opening)))
