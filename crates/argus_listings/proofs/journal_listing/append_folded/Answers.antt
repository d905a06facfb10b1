-- All pieces of the line were appended.
use Rattle.std.proofs.{Common.{ap, string_bytes, ◌++◌, ◌∙◌}, lemmas.Result.IfOk-equal}
use Rattle.std.specs.{Fmt.decimal, Prelude.codes}
use Rattle.argus_listings.proofs.Pieces.{three_pieces}
use Rattle.argus_listings.proofs.journal_listing.append_folded.Goals as goal

pub returns : goal.returns
returns c =
    let same = ap (λ n. string_bytes c.append_number.new.text ++ (codes " actions " ++ decimal n)) c.from.ensures in
    IfOk-equal c.append.result _ _ _ c.append.ensures
    (three_pieces (string_bytes c.args.text.now) (string_bytes c.append_number.new.text)
    (string_bytes c.append_number-2.new.text) (codes "opening entries " ++ decimal c.args.entries)
    (codes " actions " ++ decimal c.args.actions) (codes "\n")
    c.in_ok-append_number.ensures (c.in_ok-append_number-2.ensures ∙ same))
