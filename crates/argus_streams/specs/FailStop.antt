-- What contracts see of a `FailStop`: the reader or the writer in it, and whether it has failed.
use Rattle.std.specs.Prelude.{Bool, None, Option, Some, false, true}
use Rattle.argus_streams.specs.declared.fail_stop.FailStop.{FailStop}

-- the reader or the writer
abbrev pub inner_of : {T : Type 0} → FailStop T → T
inner_of w = w.inner

-- a call of it has failed
abbrev pub has_failed : {T : Type 0} → FailStop T → Bool
has_failed w = w.failed

-- a stream, unless it has failed
abbrev pub unless_failed : {T : Type 0} → Bool → T → Option T
unless_failed false inner = Some inner
unless_failed true inner = None
