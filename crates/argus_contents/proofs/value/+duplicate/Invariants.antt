-- Copying values in a loop.
use Rattle.std.proofs.Common.{◌≡◌, ◌++◌, take}
use Rattle.argus_contents.specs.Value.{plain_list}
use Rattle.argus_contents.proofs.value.+duplicate.Given as goal

-- the copies so far stand behind what was there
abbrev pub invariant-append_copies-loop-value : goal.invariant-append_copies-loop-value
invariant-append_copies-loop-value l =
    plain_list l.copies.items ≡ plain_list l.initial.copies.items ++ plain_list (take l.value-index l.values)
