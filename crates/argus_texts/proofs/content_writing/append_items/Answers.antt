-- The items of both pieces were appended.
use Rattle.std.proofs.{lemmas.Grind.common_steps, Common.{◌++◌, ◌∷◌, string_bytes, ap, sym, ◌∙◌, arith, rules}}
use Rattle.std.proofs.{lemmas.List.map-append, lemmas.Result.IfOk-equal}
use Rattle.argus_contents.specs.Value.{listed, plain_list, plain_value}
use Rattle.argus_texts.specs.Spelling.{inside}
use Rattle.argus_texts.proofs.Grown.{items_step}
use Rattle.argus_texts.proofs.content_writing.append_items.Goals as goal

pub returns-clause-written : goal.returns-clause-written
returns-clause-written c =
    let old = string_bytes c.args.out.now in
    let back = c.as_slices.result.1.now in
    let f = c.in-Some.first.now in
    let o = c.in-Some.others.now in
    let s = items_step old (string_bytes c.append_value.new.out) (string_bytes c.append_more.new.out)
    (string_bytes c.append_more-2.new.out) (plain_value f) (plain_list o) (plain_list back)
    c.in_ok-append_value.ensures.written c.in_ok-append_more.ensures.written c.in_ok-append_more-2.ensures.written in
    let all = sym c.as_slices.ensures.items ∙ ap (λ x. x ++ back) c.in-Some.ensures.cases.0 in
    let same = ap plain_list all ∙ ap (λ x. plain_value f ∷ x) (map-append plain_value o back) in
    IfOk-equal c.append.result _ _ _ c.append.ensures.written (s ∙ ap (λ x. old ++ inside 93 (listed x)) (sym same))

pub append_inside-requires : goal.append_inside-requires
append_inside-requires c = search rules

pub returns-in_default-clause-grew : goal.returns-in_default-clause-grew
returns-in_default-clause-grew c = search rules

pub returns-in_default-clause-written : goal.returns-in_default-clause-written
returns-in_default-clause-written c = grind (arith, common_steps)

pub returns-in_err-append_value-clause-grew : goal.returns-in_err-append_value-clause-grew
returns-in_err-append_value-clause-grew c = search rules

pub returns-in_err-append_value-clause-written : goal.returns-in_err-append_value-clause-written
returns-in_err-append_value-clause-written c = search rules

pub returns-in_err-append_more-clause-grew : goal.returns-in_err-append_more-clause-grew
returns-in_err-append_more-clause-grew c = grind (arith, common_steps)

pub returns-in_err-append_more-clause-written : goal.returns-in_err-append_more-clause-written
returns-in_err-append_more-clause-written c = search rules

pub returns-in_err-append_more-2-clause-grew : goal.returns-in_err-append_more-2-clause-grew
returns-in_err-append_more-2-clause-grew c = grind (arith, common_steps)

pub returns-in_err-append_more-2-clause-written : goal.returns-in_err-append_more-2-clause-written
returns-in_err-append_more-2-clause-written c = search rules

pub returns-clause-grew : goal.returns-clause-grew
returns-clause-grew c = grind (arith, common_steps)
