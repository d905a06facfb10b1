-- What a program reads from and writes to.
use Rattle.std.specs.Prelude.{Bool, List, Option, false, true, ℕ, ◌≡◌}
use Rattle.argus_commands.specs.{FailStop.{has_failed, inner_of}, streams_declared.fail_stop.FailStop.FailStop}

-- What a reader has left to give and what a writer has taken, as far as their contracts say, and
-- whether they have failed.
pub record RunStreams : Type 0 where
  pub input : Option (List ℕ)
  pub output : Option (List ℕ)
  pub input_failed : Bool
  pub output_failed : Bool

-- neither stream has failed
pub record AreFine (both : RunStreams) : Type 0 where
  pub input : both.input_failed ≡ false
  pub output : both.output_failed ≡ false

-- the reader has failed, and the writer hasn't
pub record HasReaderFailed (both : RunStreams) : Type 0 where
  pub input : both.input_failed ≡ true
  pub output : both.output_failed ≡ false

-- the writer has failed, and the reader hasn't
pub record HasWriterFailed (both : RunStreams) : Type 0 where
  pub input : both.input_failed ≡ false
  pub output : both.output_failed ≡ true

-- these streams, with functions that say what a reader has left and what a writer has taken
abbrev pub streams : {R W : Type 0} → (R → Option (List ℕ)) → (W → Option (List ℕ)) → FailStop R
    → FailStop W → RunStreams
streams remaining contents reader writer = record {
  input = remaining (inner_of reader);
  output = contents (inner_of writer);
  input_failed = has_failed reader;
  output_failed = has_failed writer;
}
