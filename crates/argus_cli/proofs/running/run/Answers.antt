-- What was read and run is what is listed; without memory before that nothing was written.
use Rattle.std.proofs.{Common.{ap, refl, ◌+◌}, lemmas.Result.err_from_is_err_and}
use Rattle.argus_commands.specs.Script.{plain_script}
use Rattle.argus_commands.specs.language_declared.limits.TheConstants.{MAX_SCRIPT_BYTES}
use Rattle.argus_cli.specs.{Ran.{ListsRun, checkpointed}, Streams.streams}
use Rattle.argus_guardian.specs.Listing.{listing_of}
use Rattle.argus_cli.proofs.Runs.{listed, partly_listed, unlisted}
use Rattle.argus_cli.proofs.running.run.Goals as goal

pub returns-in-Err-Fault-clause-failed : goal.returns-in-Err-Fault-clause-failed
returns-in-Err-Fault-clause-failed g c = (
  record { input = c.in-Ok.ensures.fine; output = c.requires.writer },
  record {
    bytes = c.in-Ok.bytes.items;
    read = c.in-Ok.ensures.read;
    fault = rw c.in-Err-Fault.field-0-is (rw c.as_slice.ensures.value at
        (rw c.in-Err-Fault.field-0-is at c.in-Err-Fault.ensures.fault));
    kept = refl;
  },
)

pub returns-in-Err-Memory-clause-failed : goal.returns-in-Err-Memory-clause-failed
returns-in-Err-Memory-clause-failed g c = unlisted c.args.options (MAX_SCRIPT_BYTES + 1)
    (streams g.R.Read.remaining g.W.Write.contents c.args.reader.now c.args.writer.now)
    (streams g.R.Read.remaining g.W.Write.contents c.read_up_to.new.reader c.args.writer.now)
    c.in-Ok.bytes.items c.in-Ok.ensures.read (record { input = c.in-Ok.ensures.fine; output = c.requires.writer }) refl

pub returns-in_err-guardian-clause-failed : goal.returns-in_err-guardian-clause-failed
returns-in_err-guardian-clause-failed g c =
    let p = err_from_is_err_and c.from_residual.result c.from_residual.ensures.1 in
    rw (p.1, p.2) (unlisted c.args.options (MAX_SCRIPT_BYTES + 1)
    (streams g.R.Read.remaining g.W.Write.contents c.args.reader.now c.args.writer.now)
    (streams g.R.Read.remaining g.W.Write.contents c.read_up_to.new.reader c.args.writer.now)
    c.in-Ok.bytes.items c.in-Ok.ensures.read (record { input = c.in-Ok.ensures.fine; output = c.requires.writer }) refl)

lists : (g : _) (c : goal.After-drop-bytes-2 g) → ListsRun c.in-Ok.bytes.items c.args.options
    (listing_of c.args.options.listing c.names.result.now
    (checkpointed c.args.options.checkpoint c.in_ok-guardian.guardian))
lists g c = record {
  script = plain_script c.in-Ok-parse.script;
  journal = checkpointed c.args.options.checkpoint c.in_ok-guardian.guardian;
  runs = record {
    spelled = rw c.as_slice.ensures.value at c.in-Ok-parse.ensures.spells;
    fine = rw c.as_slice.ensures.value at c.in-Ok-parse.ensures.fine;
    left = c.in_ok-guardian.guardian;
    alone = c.in_ok-guardian.ensures.alone;
    together = c.in_ok-guardian.ensures.together;
    folded = refl;
  };
  listed = ap (λ names. listing_of c.args.options.listing names
      (checkpointed c.args.options.checkpoint c.in_ok-guardian.guardian)) c.names.ensures;
}

pub returns-clause-ran : goal.returns-clause-ran
returns-clause-ran g c = listed c.args.options (MAX_SCRIPT_BYTES + 1) _ _
    c.in-Ok.bytes.items c.in-Ok.ensures.read c.fold_and_list.result _ (lists g c) c.in-Ok.ensures.fine
    c.fold_and_list.ensures.written.0 c.fold_and_list.ensures.fine

pub returns-clause-failed : goal.returns-clause-failed
returns-clause-failed g c = partly_listed c.args.options (MAX_SCRIPT_BYTES + 1)
    (streams g.R.Read.remaining g.W.Write.contents c.args.reader.now c.args.writer.now)
    (streams g.R.Read.remaining g.W.Write.contents c.read_up_to.new.reader c.fold_and_list.new.writer)
    c.in-Ok.bytes.items c.in-Ok.ensures.read c.fold_and_list.result _ (lists g c) c.in-Ok.ensures.fine
    c.fold_and_list.ensures.written.1 c.fold_and_list.ensures.failed
