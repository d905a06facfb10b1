-- What follows of a run from its parts: what was read, what was run, what was written.
use Rattle.std.proofs.Common.{Err, List, Ok, Result, false, inl, inr, take, ℕ, ◌≡◌}
use Rattle.std.specs.{Prelude.{IfErr, OnErr, OnOk}, Io.KnownBytes.Appends}
use Rattle.argus_cli.specs.{Status.IsListingFault, Streams.{AreFine, RunStreams}}
use Rattle.argus_cli.specs.Ran.{CutShort, ListsRun, Ran, RunFailed}
use Rattle.argus_cli.specs.{declared.cli_fault.CliFault.CliFault, declared.run_options.Options.Options}
use Rattle.argus_cli.specs.declared.cli_fault.CliFault.TheVariants as fault
use Rattle.argus_commands.specs.{Input.ReadUpTo}

module _ (options : Options) (limit : ℕ) (before after : RunStreams) (bytes : List ℕ)
    (read : ReadUpTo limit before.input after.input bytes) where
  -- memory was wanting before the listing
  pub unlisted : AreFine after → after.output ≡ before.output → RunFailed options limit before after fault.Memory
  unlisted fine kept = (
    fine,
    inl record {
      read = record { bytes = bytes; consumed = read.consumed; most = read.most };
      kept = kept;
    },
  )

  -- the listing was written
  pub listed : {T : Type 0} (result : Result T CliFault) (text : List ℕ) → ListsRun bytes options text
      → after.input_failed ≡ false → OnOk result (Appends before.output after.output text)
      → OnOk result (after.output_failed ≡ false) → OnOk result (Ran options limit before after)
  listed (Ok done) text lists fine written whole = record {
    bytes = bytes;
    read = read;
    text = text;
    lists = lists;
    written = written;
    fine = record { input = fine; output = whole };
  }
  listed (Err fault) text lists fine written whole = tt

  cut_short : (text : List ℕ) → ListsRun bytes options text
      → (n : ℕ) × Appends before.output after.output (take n text) → CutShort options limit before after
  cut_short text lists (n, written) = record {
    bytes = bytes;
    read = read;
    text = text;
    lists = lists;
    count = n;
    written = written;
  }

  -- the listing was cut short
  pub partly_listed : {T : Type 0} (result : Result T CliFault) (text : List ℕ) → ListsRun bytes options text
      → after.input_failed ≡ false → OnErr result ((n : ℕ) × Appends before.output after.output (take n text))
      → IfErr result (λ e. IsListingFault e after.output_failed) → IfErr result (RunFailed options limit before after)
  partly_listed (Ok done) text lists fine written failed = tt
  partly_listed (Err (fault.Script f)) text lists fine written failed = absurd failed
  partly_listed (Err fault.Memory) text lists fine written failed =
      (record { input = fine; output = failed }, inr (cut_short text lists written))
  partly_listed (Err fault.Read) text lists fine written failed = absurd failed
  partly_listed (Err fault.Write) text lists fine written failed =
      (record { input = fine; output = failed }, cut_short text lists written)
