-- Copying names and types in a loop.
use Rattle.std.proofs.Common.{◌≡◌, take, map}
use Rattle.argus_contents.specs.Ty.{plain_field}
use Rattle.argus_contents.proofs.ty.+duplicate.Given as goal

-- the copies so far are those of the fields so far
abbrev pub invariant-duplicate_fields-loop-name : goal.invariant-duplicate_fields-loop-name
invariant-duplicate_fields-loop-name l = map plain_field l.copies.items ≡ map plain_field (take l.name-index l.fields)
