-- One more object has one more name.
use Rattle.std.proofs.{Common.{[], ap₂, arith, sym, ◌++◌, ◌∙◌, ◌∷◌}, lemmas.List.FromFn.map-range_with_len_more}
use Rattle.argus_listings.specs.Listing.{numbered_name}
use Rattle.argus_listings.proofs.naming.numbered_names.Goals as goal

pub loop-o-preserved : goal.loop-o-preserved
loop-o-preserved c =
    c.in_ok-push.ensures.items ∙ ap₂ (λ names name. names ++ name ∷ []) c.loop-o.invariant c.in_ok-numbered_name.ensures
    ∙ sym (map-range_with_len_more numbered_name 0 c.loop-o.o c.loop-o.o (omega arith))
