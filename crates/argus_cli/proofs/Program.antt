-- The programs' command lines are ones for which clap's lemmas give the matches and the faults.
use Rattle.std.proofs.Common.{List, refl, true, ◌≡◌}
use Rattle.std.specs.Borrow.{Bor}
use Rattle.clap.specs.Words.{Text, is_simple, is_simple_and_free}
use Rattle.clap.proofs.OnLiterals.{clap_on_literals}
use Rattle.argus_cli.specs.{CommandLine.program, ReplayCommandLine.replay_program}

pub program_is : (listings : Bor (List (Bor Text))) → (is_simple (program listings) ≡ true)
    × (is_simple_and_free (program listings) ≡ true)
unfolding clap_on_literals
program_is listings = (refl, refl)

pub replay_program_is : (listings : Bor (List (Bor Text))) → (is_simple (replay_program listings) ≡ true)
    × (is_simple_and_free (replay_program listings) ≡ true)
unfolding clap_on_literals
replay_program_is listings = (refl, refl)
