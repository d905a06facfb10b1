-- A tag and a value were appended.
use Rattle.std.{proofs.{Common.{ap, string_bytes, sym, ◌++◌, ◌∙◌}, lemmas.Result.IfOk-equal}, specs.Fmt.decimal}
use Rattle.std.specs.Prelude.{codes}
use Rattle.argus_contents.specs.{Change.plain_change, Value.plain_value}
use Rattle.argus_texts.specs.Spelling.{spelling}
use Rattle.argus_entries.{specs.OperationSpelling.change_spelling, proofs.Pieces.two_pieces}
use Rattle.argus_entries.proofs.operation_writing.append_change.Goals as goal

pub returns-in_ok-append_number-in-ChangeTag-clause-written :
    goal.returns-in_ok-append_number-in-ChangeTag-clause-written
returns-in_ok-append_number-in-ChangeTag-clause-written c =
    let old = string_bytes c.args.out.now in
    let tag = c.in_ok-append_number-in-ChangeTag.ensures.written
    ∙ ap (λ t. old ++ (codes "change_tag " ++ decimal t)) c.from-in-ChangeTag.ensures in
    IfOk-equal c.append_value-in-ChangeTag.result _ _ _ c.append_value-in-ChangeTag.ensures.written
    (two_pieces old (string_bytes c.append_number-in-ChangeTag.new.out)
    (codes "change_tag " ++ decimal c.in-ChangeTag.tag) (codes " ") (spelling (plain_value c.in-ChangeTag.value))
    tag
    ∙ ap (λ x. old ++ change_spelling (plain_change x)) (sym c.in-ChangeTag.is))
