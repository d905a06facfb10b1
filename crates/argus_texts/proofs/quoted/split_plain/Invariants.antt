-- The bytes passed so far are written as they are.
use Rattle.std.proofs.Common.{◌≡◌, ◌≤◌, ◌-◌, length, take}
use Rattle.argus_texts.specs.Spelling.{escaped}
use Rattle.argus_texts.proofs.quoted.split_plain.Given as goal

abbrev pub invariant-loop-at : goal.invariant-loop-at
invariant-loop-at l = record { within : l.at ≤ length l.text; plain : escaped (take l.at l.text) ≡ take l.at l.text }

abbrev pub decreases-loop-at : goal.decreases-loop-at
decreases-loop-at l = length l.text - l.at
