-- How a program ends on its command line.
use Rattle.std.specs.Prelude.{[], false, true, ℕ, ◌≡◌, ◌≢◌, ◌⊎◌}
use Rattle.argus_cli.specs.declared.no_options.NoOptions.{NoOptions}
use Rattle.argus_cli.specs.declared.no_options.NoOptions.TheVariants as no
use Rattle.clap.specs.{Words.{App, Text, app_of, args_of, groups_of, new_app}, Simple.on_top}
use Rattle.clap.specs.{declared.builder.command.Command.Command, declared.builder.command.Command.TheViews.out-Command}
use Rattle.clap.specs.declared.error.kind.ErrorKind.{ErrorKind}
use Rattle.clap.specs.declared.error.kind.ErrorKind.TheVariants as kind

-- the command line of a program of this name, which has a version and no options yet
abbrev pub named_program : Text → App
named_program name = on_top (λ shape. record shape { has_version = true }) (new_app name)

-- clap's command has that command line, and no arguments of its own
pub record IsBare (name : Text) (c : Command) : Type 0 where
  pub app : app_of c ≡ named_program name
  pub no_args : args_of c ≡ []
  pub no_groups : groups_of c ≡ []
  pub no_globals : (out-Command c).has_globals ≡ false

-- the status is 0 if a text was asked for, and 2 for a mistake
pub record IsStatusOf (error : ErrorKind) (status : ℕ) : Type 0 where
  pub help : error ≡ kind.DisplayHelp → status ≡ 0
  pub version : error ≡ kind.DisplayVersion → status ≡ 0
  pub mistake : error ≢ kind.DisplayHelp → error ≢ kind.DisplayVersion → status ≡ 2

-- how the program ends on an error of this kind
abbrev pub IsUsage : ErrorKind → NoOptions → Type 0
IsUsage error (no.Usage status text) = (error ≢ kind.OutOfMemory) × IsStatusOf error status
IsUsage error no.Memory = Unit {0}

-- the status is that of a mistake in the command line, or of help and the version
abbrev pub EndsWith0Or2 : NoOptions → Type 0
EndsWith0Or2 (no.Usage status text) = (status ≡ 0) ⊎ (status ≡ 2)
EndsWith0Or2 no.Memory = Unit {0}

-- the program ends with the status of a mistake, or there is no memory
abbrev pub IsMistake : NoOptions → Type 0
IsMistake (no.Usage status text) = status ≡ 2
IsMistake no.Memory = Unit {0}

-- the program may end with this status: with that of its text, or with 5 if the text can't be
-- written; without memory with 4
abbrev pub MayEndWith : NoOptions → ℕ → Type 0
MayEndWith (no.Usage status text) ended = (ended ≡ status) ⊎ (ended ≡ 5)
MayEndWith no.Memory ended = ended ≡ 4
