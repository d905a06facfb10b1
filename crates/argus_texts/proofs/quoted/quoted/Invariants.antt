-- What was read so far stands between the opening quote and the rest.
use Rattle.std.proofs.Common.{◌≡◌, ◌++◌, length, string_bytes}
use Rattle.std.specs.Str.{IsUtf8}
use Rattle.argus_texts.specs.Spelling.{escaped}
use Rattle.argus_texts.proofs.quoted.quoted.Given as goal

abbrev pub invariant-loop-read : goal.invariant-loop-read
invariant-loop-read l = record { read : l.fn.text ≡ escaped (string_bytes l.read) ++ l.rest; utf8 : IsUtf8 l.rest }

abbrev pub decreases-loop-read : goal.decreases-loop-read
decreases-loop-read l = length l.rest
