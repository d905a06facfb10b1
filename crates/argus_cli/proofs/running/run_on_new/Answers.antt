-- A new guardian's journal is the new one.
use Rattle.std.proofs.Common.{subst, ◌≡◌}
use Rattle.argus_cli.specs.Ran.{new_journal}
use Rattle.argus_commands.specs.{Played.IsPlay, Script.plain_script}
use Rattle.argus_cli.proofs.running.run_on_new.Goals as goal

pub returns-clause-alone : goal.returns-clause-alone
returns-clause-alone g c = λ one.
    let new : c.new-guardian.result ≡ new_journal =
    (λ k. record { opening = c.new-guardian.ensures.opening k; entries = c.new-guardian.ensures.entries k }) in
    subst (λ j. IsPlay j (plain_script c.args.script.now) c.run_without_output.new.guardian) new
    c.in_ok-run_without_output.ensures.played
