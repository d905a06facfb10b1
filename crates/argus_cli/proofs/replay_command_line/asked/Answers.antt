-- What clap's matches of the words are, and their faults.
use Rattle.std.proofs.Common.{ap, ap₂, codes, inl, inr, map, option_map, rules, string_bytes, subst, sym, ◌∙◌, ◌∷◌, ◌≡◌}
use Rattle.std.proofs.Common.{◌⊎◌}
use Rattle.clap.specs.Words.{HasKind, Text, fault_of, first_of, found_of, is_simple, is_simple_and_free, kind_of}
use Rattle.clap.specs.Words.{matches_of, one_of, one_text, rows_of}
use Rattle.clap.specs.declared.error.kind.ErrorKind.TheVariants as kind
use Rattle.argus_cli.specs.CommandLine.{is_given, listing_named, listing_or_bases}
use Rattle.argus_cli.specs.ReplayCommandLine.{IsReplayRefused, replay_rows}
use Rattle.argus_cli.proofs.{Program.replay_program_is, Accepted.{flag_read, listing_or}}
use Rattle.clap.proofs.WalkLemmas.{first_value-rows, one_text-rows}
use Rattle.argus_cli.proofs.replay_command_line.asked.Goals as goal

pub returns-in_err-matches-clause-refused : goal.returns-in_err-matches-clause-refused
returns-in_err-matches-clause-refused c =
    let p = c.in_ok-command.ensures in
    let words_are : map (λ word. word.now) c.as_slice.result.now ≡ codes "replay" ∷ map string_bytes
    c.args.words.now = search rules in
    let failed = c.in_err-matches.ensures.kinds (ap is_simple_and_free p.app ∙ (replay_program_is p.listings).1) in
    let why : (kind_of c.in_err-matches.field-0.0 ≡ kind.OutOfMemory) ⊎ IsReplayRefused
    (map string_bytes c.args.words.now) (kind_of c.in_err-matches.field-0.0) = elim (subst (λ kinds. HasKind kinds
    c.in_err-matches.field-0.0) (ap₂ fault_of p.app words_are) failed) [
      | inl memory ↦ inl memory
      | inr among ↦ inr (record { listings = p.listings; named = p.named; among = among })
    ] in
    search rules

pub returns-clause-asked : goal.returns-clause-asked
returns-clause-asked c =
    let p = c.in_ok-command.ensures in
    let m = c.in_ok-matches.matches in
    let words = map string_bytes c.args.words.now in
    let words_are : map (λ word. word.now) c.as_slice.result.now ≡ codes "replay" ∷ words = search rules in
    let rows : rows_of (found_of m) ≡ replay_rows p.listings words =
    (c.in_ok-matches.ensures.matches (ap is_simple p.app ∙ (replay_program_is p.listings).0)).0
    ∙ ap₂ matches_of p.app words_are in
    let text : (id : Text) → one_text (found_of m) id ≡ one_of id (replay_rows p.listings words) =
    λ id. one_text-rows (found_of m) id ∙ ap (one_of id) rows in
    let name : option_map (λ s. s.now) c.get_str.result ≡ first_of (codes "list") (replay_rows p.listings words) =
    c.get_str.ensures ∙ first_value-rows (found_of m) (codes "list") ∙ ap (first_of (codes "list")) rows in
    record {
      listings = p.listings;
      named = p.named;
      fine = sym (ap₂ fault_of p.app words_are) ∙ c.in_ok-matches.ensures.kinds (ap is_simple_and_free p.app
          ∙ (replay_program_is p.listings).1);
      listing = c.listing_named.ensures ∙ ap (λ s. listing_named s.now) c.unwrap_or.ensures
          ∙ listing_or c.get_str.result _ (search rules) ∙ ap listing_or_bases name;
      database = c.in_ok-database.ensures ∙ c.get_str-2.ensures ∙ first_value-rows (found_of m) (codes "database")
          ∙ ap (first_of (codes "database")) rows;
      prefix = flag_read _ (one_text (found_of m) (codes "prefix")) c.get_one.result c.unwrap_or-2.result
          c.get_one.ensures.none c.get_one.ensures.value c.unwrap_or-2.ensures ∙ ap is_given (text (codes "prefix"));
    }
