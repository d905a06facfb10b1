-- Stops of two ways to go on, and of lines.
use Rattle.std.specs.Prelude.{ℕ, min}
use Rattle.argus_texts.specs.declared.stop.Stop.{Stop}
use Rattle.argus_texts.specs.declared.stop.Stop.TheVariants as stop
use Rattle.argus_reading.specs.declared.line_stop.LineStop.{LineStop}
use Rattle.argus_reading.specs.declared.line_stop.LineStop.TheVariants as line

-- where the later of two ways stops: where fewer bytes are left
abbrev pub farther : Stop → Stop → Stop
farther (stop.Left a) (stop.Left b) = stop.Left (min a b)
farther (stop.Left a) stop.Memory = stop.Memory
farther stop.Memory other = stop.Memory

-- a stop as one of a line
abbrev pub line_stop : Stop → LineStop
line_stop (stop.Left a) = line.Left a
line_stop stop.Memory = line.OutOfMemory

-- P holds of the number of bytes that are left, and Q of that before a missing shape; out of memory
-- says nothing
abbrev pub OnStop : LineStop → (ℕ → Type 0) → (ℕ → Type 0) → Type 0
OnStop (line.Left left) P Q = P left
OnStop (line.Shape left) P Q = Q left
OnStop line.OutOfMemory P Q = Unit {0}
