-- What is left completes the text.
use Rattle.std.proofs.Common.{drop, map, string_bytes, ◌++◌, ◌≡◌}
use Rattle.std.specs.List.{flat_map}
use Rattle.argus_actions.specs.declared.action_id.ActionId.{ActionId}
use Rattle.argus_listings.specs.Listing.{reader_text}
use Rattle.argus_listings.proofs.appending.append_each_reader.Given as goal

abbrev pub invariant-loop-reader : goal.invariant-loop-reader
invariant-loop-reader l =
    string_bytes l.text ++ flat_map reader_text (map (λ (a : ActionId). a.0) (drop l.reader-index l.readers))
    ≡ string_bytes l.fn.text ++ flat_map reader_text (map (λ (a : ActionId). a.0) l.readers)
