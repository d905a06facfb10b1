-- What is left completes the text.
use Rattle.std.proofs.Common.{drop, map, string_bytes, ◌++◌, ◌≡◌}
use Rattle.argus_actions.specs.declared.action_id.ActionId.{ActionId}
use Rattle.argus_embed.specs.Questions.{action_lines}
use Rattle.argus_embed.proofs.object_writing.append_readers.Given as goal

abbrev pub invariant-loop-reader : goal.invariant-loop-reader
invariant-loop-reader l =
    string_bytes l.text ++ action_lines (map (λ (a : ActionId). a.0) (drop l.reader-index l.readers))
    ≡ string_bytes l.fn.text ++ action_lines (map (λ (a : ActionId). a.0) l.readers)
