-- A tag and its value were appended.
use Rattle.std.proofs.{lemmas.Grind.common_steps, Common.{◌++◌, string_bytes, ap, sym, ◌∙◌, arith, rules}}
use Rattle.std.proofs.lemmas.Result.{IfOk-equal}
use Rattle.argus_contents.specs.{Content.plain_content, Value.plain_value}
use Rattle.argus_texts.specs.ContentSpelling.{content_spelling}
use Rattle.argus_texts.proofs.Grown.{choice_step}
use Rattle.argus_texts.proofs.content_writing.append_content.Goals as goal

pub returns-in_ok-append_value-in-Var-clause-written : goal.returns-in_ok-append_value-in-Var-clause-written
returns-in_ok-append_value-in-Var-clause-written c =
    let old = string_bytes c.args.out.now in
    let s = choice_step old (string_bytes c.append_tag.new.out) (string_bytes c.append_value.new.out) c.in-Var.tag
    (plain_value c.in-Var.value)
    c.in_ok-append_tag-in-Var.ensures.written c.in_ok-append_value-in-Var.ensures.written in
    IfOk-equal c.append-in-Var.result _ _ _ c.append-in-Var.ensures.written
    (s ∙ ap (λ w. old ++ content_spelling (plain_content w)) (sym c.in-Var.is))

pub returns-in_ok-append-in-Arr-clause-written : goal.returns-in_ok-append-in-Arr-clause-written
returns-in_ok-append-in-Arr-clause-written c = grind (arith, common_steps)

pub returns-in_err-append-in-Rec-clause-grew : goal.returns-in_err-append-in-Rec-clause-grew
returns-in_err-append-in-Rec-clause-grew c = search rules

pub returns-in_err-append-in-Rec-clause-written : goal.returns-in_err-append-in-Rec-clause-written
returns-in_err-append-in-Rec-clause-written c = search rules

pub append_inside-requires : goal.append_inside-requires
append_inside-requires c = search rules

pub returns-in_err-append_int-in-Arr-clause-grew : goal.returns-in_err-append_int-in-Arr-clause-grew
returns-in_err-append_int-in-Arr-clause-grew c = search rules

pub returns-in_err-append_int-in-Arr-clause-written : goal.returns-in_err-append_int-in-Arr-clause-written
returns-in_err-append_int-in-Arr-clause-written c = search rules

pub returns-in_err-append-in-Arr-clause-grew : goal.returns-in_err-append-in-Arr-clause-grew
returns-in_err-append-in-Arr-clause-grew c = grind (arith, common_steps)

pub returns-in_err-append-in-Arr-clause-written : goal.returns-in_err-append-in-Arr-clause-written
returns-in_err-append-in-Arr-clause-written c = search rules

pub returns-in_err-append_tag-in-Var-clause-grew : goal.returns-in_err-append_tag-in-Var-clause-grew
returns-in_err-append_tag-in-Var-clause-grew c = search rules

pub returns-in_err-append_tag-in-Var-clause-written : goal.returns-in_err-append_tag-in-Var-clause-written
returns-in_err-append_tag-in-Var-clause-written c = search rules

pub returns-in_err-append_value-in-Var-clause-grew : goal.returns-in_err-append_value-in-Var-clause-grew
returns-in_err-append_value-in-Var-clause-grew c = grind (arith, common_steps)

pub returns-in_err-append_value-in-Var-clause-written : goal.returns-in_err-append_value-in-Var-clause-written
returns-in_err-append_value-in-Var-clause-written c = search rules

pub returns-in_ok-append-in-Rec-clause-grew : goal.returns-in_ok-append-in-Rec-clause-grew
returns-in_ok-append-in-Rec-clause-grew c = grind (arith, common_steps)

pub returns-in_ok-append-in-Rec-clause-written : goal.returns-in_ok-append-in-Rec-clause-written
returns-in_ok-append-in-Rec-clause-written c = grind (arith, common_steps)

pub returns-in_ok-append-in-Arr-clause-grew : goal.returns-in_ok-append-in-Arr-clause-grew
returns-in_ok-append-in-Arr-clause-grew c = grind (arith, common_steps)

pub returns-in_ok-append_value-in-Var-clause-grew : goal.returns-in_ok-append_value-in-Var-clause-grew
returns-in_ok-append_value-in-Var-clause-grew c = grind (arith, common_steps)
