-- With which status a program ends.
use Rattle.std.specs.Prelude.{Bool, false, true, ℕ, ◌≡◌}
use Rattle.argus_cli.specs.{declared.cli_fault.CliFault.CliFault, declared.replay_error.ReplayError.ReplayError}
use Rattle.argus_cli.specs.declared.cli_fault.CliFault.TheVariants as fault
use Rattle.argus_cli.specs.declared.replay_error.ReplayError.TheVariants as error

-- the status of a fault
abbrev pub status_of : CliFault → ℕ
status_of (fault.Script f) = 3
status_of fault.Memory = 4
status_of fault.Read = 5
status_of fault.Write = 5

-- a fault that a listing may have: a failed write, if the writer has failed; otherwise out of
-- memory
abbrev pub IsListingFault : CliFault → Bool → Type 0
IsListingFault (fault.Script f) failed = ⊥
IsListingFault fault.Memory failed = failed ≡ false
IsListingFault fault.Read failed = ⊥
IsListingFault fault.Write failed = failed ≡ true

-- the status of an error of a replay
abbrev pub replay_status_of : ReplayError → ℕ
replay_status_of (error.Line faulty) = 3
replay_status_of error.OutOfMemory = 4
replay_status_of error.Read = 5
replay_status_of error.Write = 5
