-- What the calls of a journal have to be so that each of its lines can be read.
use Rattle.std.specs.Prelude.{List, [], ℕ, ◌∷◌, ◌≡◌}
use Rattle.argus_contents.specs.declared.limits.TheConstants.{MAX_VALUE_DEPTH}
use Rattle.argus_entries.specs.{Call.PlainCall, Entry.PlainEntry, Laws.CallWithin, Reply.refused}
use Rattle.argus_entries.specs.declared.refusal.Refusal.{Refusal}
use Rattle.argus_reading.specs.Calls.{DeclaresShape}

-- a call that a program can hold: its numbers are in range, its texts in UTF-8, and a shape that it
-- declares can be made; its values may have any depth
abbrev pub IsWellFormed : PlainCall → Type 0
IsWellFormed c = ((depth : ℕ) × CallWithin depth c) × DeclaresShape c

-- an entry with a call that a program can hold; and if it was refused, for whatever reason, its
-- values have a depth of at most 16
pub record HasReadableCall (e : PlainEntry) : Type 0 where
  pub well_formed : IsWellFormed e.call
  pub depth : (why : Refusal) → e.reply ≡ refused why → CallWithin MAX_VALUE_DEPTH e.call

-- each of the entries is such an entry
abbrev pub HaveReadableCalls : List PlainEntry → Type 0
HaveReadableCalls [] = Unit {0}
HaveReadableCalls (e ∷ older) = HasReadableCall e × HaveReadableCalls older
