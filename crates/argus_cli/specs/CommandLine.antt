-- What options a command line asks for.
use Rattle.std.specs.Prelude.{Bool, List, None, Option, Some, [], codes, false, if◌then◌else◌, map, pos, ℕ, ◌∷◌, ◌≡◌}
use Rattle.std.specs.{Borrow.Bor, Str.bytes_eq, Str.Parse.{digits_value, without_leading_plus}}
use Rattle.argus_cli.specs.declared.limits.TheConstants.{MAX_PATIENCE, MAX_WORKERS}
use Rattle.argus_cli.specs.declared.run_options.Options.{Options}
use Rattle.argus_guardian.specs.listings_declared.listing.Listing.{Listing}
use Rattle.argus_guardian.specs.listings_declared.listing.Listing.TheVariants.{Audit, Bases, Journal, Stacks}
use Rattle.argus_cli.specs.{Usage.{IsStatusOf, named_program}, declared.no_options.NoOptions.NoOptions}
use Rattle.argus_cli.specs.declared.no_options.NoOptions.TheVariants as no
use Rattle.clap.specs.Words.{App, IsAmong, IsPlain, Row, Rule, Text, app_of, fault_of, first_of, matches_of, new_rule}
use Rattle.clap.specs.{Words.{one_of, with_rule}, declared.builder.action.ArgAction.TheVariants.{Set, SetTrue}}
use Rattle.clap.specs.{declared.builder.command.Command.Command, declared.builder.command.Command.TheViews.out-Command}
use Rattle.clap.specs.{declared.builder.value_parser.ValueParser.ValueParser, declared.error.kind.ErrorKind.ErrorKind}
use Rattle.clap.specs.declared.builder.value_parser.ValueParser.TheVariants as vp

-- an option with a value that may be any text, and has no default
abbrev pub text_option_of : Text → Rule
text_option_of name = record (new_rule name) { long = Some name; action = Some Set; value_names = 1 }

-- an option with a value: this parser takes it, and this value is its default
abbrev pub option_of : Text → Text → ValueParser → Rule
option_of name default parser = record (text_option_of name) { defaults = default ∷ []; parser = Some parser }

-- an option without a value
abbrev pub flag_of : Text → Rule
flag_of name = record (new_rule name) { long = Some name; action = Some SetTrue }

-- the program's command line: it has a version, and of its options `--list` takes these names
abbrev pub program : Bor (List (Bor Text)) → App
program listings = with_rule (with_rule (with_rule (with_rule (named_program (codes "argus"))
    (option_of (codes "workers") (codes "1") (vp.Signed (pos 1) (pos MAX_WORKERS))))
    (option_of (codes "patience") (codes "0") (vp.Signed (pos 0) (pos MAX_PATIENCE))))
    (option_of (codes "list") (codes "bases") (vp.Names listings)))
    (flag_of (codes "checkpoint"))

-- these are the names of the listings
abbrev pub NamesListings : Bor (List (Bor Text)) → Type 0
NamesListings listings = map (λ name. name.now) listings.now
    ≡ codes "bases" ∷ codes "stacks" ∷ codes "journal" ∷ codes "audit" ∷ []

-- the words after the program's name, as clap matches them
abbrev pub rows_of_words : Bor (List (Bor Text)) → List Text → List Row
rows_of_words listings words = matches_of (program listings) (codes "argus" ∷ words)

-- the mistakes in them, and the request for help or the version
abbrev pub faults_of_words : Bor (List (Bor Text)) → List Text → List ErrorKind
faults_of_words listings words = fault_of (program listings) (codes "argus" ∷ words)

-- the number that the text spells; the other one if there is no text
abbrev pub number_or : ℕ → Option Text → ℕ
number_or other None = other
number_or other (Some text) = digits_value 10 (without_leading_plus text)

-- the listing of a name
abbrev pub listing_named : Text → Listing
listing_named name = if bytes_eq name (codes "stacks") then Stacks
    else if bytes_eq name (codes "journal") then Journal
    else if bytes_eq name (codes "audit") then Audit
    else Bases

-- the listing that is named, and the bases if none is
abbrev pub listing_or_bases : Option Text → Listing
listing_or_bases None = Bases
listing_or_bases (Some name) = listing_named name

-- the flag was given
abbrev pub is_given : Option Text → Bool
is_given None = false
is_given (Some text) = bytes_eq text (codes "true")

-- the words ask for these options: there is no mistake in them, and each option has the value that
-- is given for it
pub record Asks (words : List Text) (options : Options) : Type 0 where
  pub listings : Bor (List (Bor Text))
  pub named : NamesListings listings
  pub fine : faults_of_words listings words ≡ []
  pub workers : options.workers
      ≡ number_or 1 (one_of (codes "workers") (rows_of_words listings words))
  pub patience : options.patience
      ≡ number_or 0 (one_of (codes "patience") (rows_of_words listings words))
  pub listing : options.listing
      ≡ listing_or_bases (first_of (codes "list") (rows_of_words listings words))
  pub checkpoint : options.checkpoint
      ≡ is_given (one_of (codes "checkpoint") (rows_of_words listings words))

-- the words have a mistake of this kind, or ask for help or the version
pub record IsRefused (words : List Text) (error : ErrorKind) : Type 0 where
  pub listings : Bor (List (Bor Text))
  pub named : NamesListings listings
  pub among : IsAmong error (faults_of_words listings words)

-- why the words give no options: the status says that they have a mistake, or ask for help or the
-- version
abbrev pub AskNothing : List Text → NoOptions → Type 0
AskNothing words (no.Usage status text) =
    (error : ErrorKind) × IsRefused words error × IsStatusOf error status
AskNothing words no.Memory = Unit {0}

-- clap's command is the program's command line, without conflicts and without global options
pub record IsProgram (c : Command) : Type 0 where
  pub listings : Bor (List (Bor Text))
  pub named : NamesListings listings
  pub app : app_of c ≡ program listings
  pub plain : IsPlain c
  pub no_globals : (out-Command c).has_globals ≡ false
