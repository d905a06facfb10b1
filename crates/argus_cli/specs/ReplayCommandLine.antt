-- What the command line of a replay asks for.
use Rattle.std.specs.{Borrow.Bor, Prelude.{List, [], Some, codes, false, option_map, string_bytes, ◌∷◌, ◌≡◌}}
use Rattle.argus_cli.specs.CommandLine.{NamesListings, flag_of, is_given, listing_or_bases, option_of, text_option_of}
use Rattle.argus_cli.specs.declared.replay_options.ReplayRequest.{ReplayRequest}
use Rattle.argus_cli.specs.{Usage.{IsStatusOf, named_program}, declared.no_options.NoOptions.NoOptions}
use Rattle.argus_cli.specs.declared.no_options.NoOptions.TheVariants as no
use Rattle.clap.specs.Words.{App, IsAmong, IsPlain, Row, Text, app_of, fault_of, first_of, matches_of}
use Rattle.clap.specs.{Words.{one_of, with_rule}}
use Rattle.clap.specs.declared.builder.command.Command.{Command}
use Rattle.clap.specs.{declared.builder.command.Command.TheViews.out-Command, declared.error.kind.ErrorKind.ErrorKind}
use Rattle.clap.specs.declared.builder.value_parser.ValueParser.TheVariants as vp

-- the program's command line: it has a version, and `--list` takes these names
abbrev pub replay_program : Bor (List (Bor Text)) → App
replay_program listings = with_rule (with_rule (with_rule (named_program (codes "replay"))
    (option_of (codes "list") (codes "bases") (vp.Names listings)))
    (flag_of (codes "prefix")))
    (text_option_of (codes "database"))

-- the words after the program's name, as clap matches them
abbrev pub replay_rows : Bor (List (Bor Text)) → List Text → List Row
replay_rows listings words = matches_of (replay_program listings) (codes "replay" ∷ words)

-- the mistakes in them, and the request for help or the version
abbrev pub replay_faults : Bor (List (Bor Text)) → List Text → List ErrorKind
replay_faults listings words = fault_of (replay_program listings) (codes "replay" ∷ words)

-- the words ask for this: there is no mistake in them, and each option has the value that is given
-- for it
pub record AsksReplay (words : List Text) (asked : ReplayRequest) : Type 0 where
  pub listings : Bor (List (Bor Text))
  pub named : NamesListings listings
  pub fine : replay_faults listings words ≡ []
  pub listing : asked.options.listing
      ≡ listing_or_bases (first_of (codes "list") (replay_rows listings words))
  pub prefix : asked.options.prefix
      ≡ is_given (one_of (codes "prefix") (replay_rows listings words))
  pub database : option_map string_bytes asked.database
      ≡ first_of (codes "database") (replay_rows listings words)

-- the words have a mistake of this kind, or ask for help or the version
pub record IsReplayRefused (words : List Text) (error : ErrorKind) : Type 0 where
  pub listings : Bor (List (Bor Text))
  pub named : NamesListings listings
  pub among : IsAmong error (replay_faults listings words)

-- why the words give no options: the status says that they have a mistake, or ask for help or the
-- version
abbrev pub AskNoReplay : List Text → NoOptions → Type 0
AskNoReplay words (no.Usage status text) =
    (error : ErrorKind) × IsReplayRefused words error × IsStatusOf error status
AskNoReplay words no.Memory = Unit {0}

-- clap's command is the program's command line, without conflicts and without global options
pub record IsReplayProgram (c : Command) : Type 0 where
  pub listings : Bor (List (Bor Text))
  pub named : NamesListings listings
  pub app : app_of c ≡ replay_program listings
  pub plain : IsPlain c
  pub no_globals : (out-Command c).has_globals ≡ false
