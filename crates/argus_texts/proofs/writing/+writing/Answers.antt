-- A tag and its value were appended.
use Rattle.std.proofs.{Common.{◌++◌, string_bytes, ap, sym, ◌∙◌}, lemmas.Result.IfOk-equal}
use Rattle.argus_contents.specs.Value.{plain_value, choice}
use Rattle.argus_contents.proofs.Levels.{plain_value-Choice}
use Rattle.argus_texts.specs.Spelling.{spelling}
use Rattle.argus_texts.proofs.Grown.{choice_step}
use Rattle.argus_texts.proofs.writing.+writing.Goals as goal

pub append_value-returns-in_ok-append_value-in-Choice-clause-written :
    goal.append_value-returns-in_ok-append_value-in-Choice-clause-written
append_value-returns-in_ok-append_value-in-Choice-clause-written t c =
    let old = string_bytes c.args.out.now in
    let v = c.deref-in-Choice.result.now in
    let s = choice_step old (string_bytes c.append_tag.new.out) (string_bytes c.append_value.new.out) c.in-Choice.tag
    (plain_value v) c.in_ok-append_tag-in-Choice.ensures.written c.in_ok-append_value-in-Choice.ensures.written in
    IfOk-equal c.append-in-Choice.result _ _ _ c.append-in-Choice.ensures.written (s ∙ ap (λ w. old ++ spelling w)
    (ap (λ w. choice c.in-Choice.tag (plain_value w)) c.deref-in-Choice.ensures
    ∙ sym (plain_value-Choice c.in-Choice.tag c.in-Choice.part))
    ∙ ap (λ w. old ++ spelling (plain_value w)) (sym c.in-Choice.is))
