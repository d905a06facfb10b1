use Rattle.std.proofs.Common.{ap, ap₂, arith, codes, inl, inr, map, option_map, rules, string_bytes, subst, sym, ◌∙◌}
use Rattle.std.proofs.Common.{◌∷◌, ◌≡◌, ◌⊎◌}
use Rattle.clap.specs.Words.{HasKind, Text, fault_of, first_of, found_of, is_simple, is_simple_and_free, kind_of}
use Rattle.clap.specs.Words.{matches_of, one_of, one_text, rows_of}
use Rattle.clap.specs.declared.error.kind.ErrorKind.TheVariants as kind
use Rattle.argus_cli.specs.CommandLine.{IsRefused, is_given, listing_named, listing_or_bases}
use Rattle.argus_cli.specs.CommandLine.{number_or, rows_of_words}
use Rattle.argus_cli.specs.declared.limits.TheConstants.{MAX_PATIENCE, MAX_WORKERS}
use Rattle.argus_cli.proofs.Program.{program_is}
use Rattle.argus_cli.proofs.Accepted.{IsWithin, flag_read, listing_or, number_read, patience_accepted, workers_accepted}
use Rattle.clap.proofs.WalkLemmas.{first_value-rows, one_text-rows}
use Rattle.std.specs.Str.Parse.{ExplainsUnsignedError, HasUnsignedDigitsIfOk, ParsesUnsigned}
use Rattle.argus_cli.proofs.command_line.asked.Goals as goal

pub returns-in_err-matches-clause-refused : goal.returns-in_err-matches-clause-refused
returns-in_err-matches-clause-refused c =
    let p = c.in_ok-command.ensures in
    let words_are : map (λ word. word.now) c.as_slice.result.now ≡ codes "argus" ∷ map string_bytes
    c.args.words.now = search rules in
    let failed = c.in_err-matches.ensures.kinds (ap is_simple_and_free p.app ∙ (program_is p.listings).1) in
    let why : (kind_of c.in_err-matches.field-0.0 ≡ kind.OutOfMemory) ⊎ IsRefused
    (map string_bytes c.args.words.now) (kind_of c.in_err-matches.field-0.0) = elim (subst (λ kinds. HasKind kinds
    c.in_err-matches.field-0.0) (ap₂ fault_of p.app words_are) failed) [
      | inl memory ↦ inl memory
      | inr among ↦ inr (record { listings = p.listings; named = p.named; among = among })
    ] in
    search rules

workers : (c : goal.After-drop-all-2) → IsWithin 1 MAX_WORKERS 1 c.unwrap_or.result (one_text
    (found_of c.in_ok-matches.matches) (codes "workers"))
workers c = number_read _ (λ bs r. ParsesUnsigned 32 10 bs r × ExplainsUnsignedError 10 bs r ×
    HasUnsignedDigitsIfOk bs r) (λ u x g. g.0)
    1 MAX_WORKERS 1 c.unwrap_or.result _ c.get_one.result (omega arith) (omega arith)
    (omega arith) c.get_one.ensures.none c.get_one.ensures.value
    (workers_accepted _ c.in_ok-command.ensures c.in_ok-matches.matches c.in_ok-matches.ensures.parsed)
    c.unwrap_or.ensures

patience : (c : goal.After-drop-all-2) → IsWithin 0 MAX_PATIENCE 0 c.unwrap_or-2.result (one_text
    (found_of c.in_ok-matches.matches) (codes "patience"))
patience c = number_read _ (λ bs r. ParsesUnsigned 32 10 bs r × ExplainsUnsignedError 10 bs r ×
    HasUnsignedDigitsIfOk bs r) (λ u x g. g.0)
    0 MAX_PATIENCE 0 c.unwrap_or-2.result _ c.get_one-2.result (omega arith) (omega arith)
    (omega arith) c.get_one-2.ensures.none c.get_one-2.ensures.value
    (patience_accepted _ c.in_ok-command.ensures c.in_ok-matches.matches c.in_ok-matches.ensures.parsed)
    c.unwrap_or-2.ensures

pub returns-clause-ranges : goal.returns-clause-ranges
returns-clause-ranges c = (((workers c).low, (workers c).high), (patience c).high)

pub returns-clause-asked : goal.returns-clause-asked
returns-clause-asked c =
    let p = c.in_ok-command.ensures in
    let m = c.in_ok-matches.matches in
    let words = map string_bytes c.args.words.now in
    let words_are : map (λ word. word.now) c.as_slice.result.now ≡ codes "argus" ∷ words = search rules in
    let rows : rows_of (found_of m) ≡ rows_of_words p.listings words =
    (c.in_ok-matches.ensures.matches (ap is_simple p.app ∙ (program_is p.listings).0)).0
    ∙ ap₂ matches_of p.app words_are in
    let text : (id : Text) → one_text (found_of m) id ≡ one_of id (rows_of_words p.listings words) =
    λ id. one_text-rows (found_of m) id ∙ ap (one_of id) rows in
    let name : option_map (λ s. s.now) c.get_str.result ≡ first_of (codes "list") (rows_of_words p.listings words) =
    c.get_str.ensures ∙ first_value-rows (found_of m) (codes "list") ∙ ap (first_of (codes "list")) rows in
    record {
      listings = p.listings;
      named = p.named;
      fine = sym (ap₂ fault_of p.app words_are) ∙ c.in_ok-matches.ensures.kinds (ap is_simple_and_free p.app
          ∙ (program_is p.listings).1);
      workers = (workers c).is ∙ ap (number_or 1) (text (codes "workers"));
      patience = (patience c).is ∙ ap (number_or 0) (text (codes "patience"));
      listing = c.listing_named.ensures ∙ ap (λ s. listing_named s.now) c.unwrap_or-3.ensures
          ∙ listing_or c.get_str.result _ (search rules) ∙ ap listing_or_bases name;
      checkpoint = flag_read _ (one_text (found_of m) (codes "checkpoint")) c.get_one-3.result c.unwrap_or-4.result
          c.get_one-3.ensures.none c.get_one-3.ensures.value c.unwrap_or-4.ensures
          ∙ ap is_given (text (codes "checkpoint"));
    }
