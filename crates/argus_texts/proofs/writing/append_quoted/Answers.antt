-- A plain piece and an escape were appended.
use Rattle.std.proofs.{lemmas.Grind.common_steps, Common.{◌++◌, ◌∷◌, [], string_bytes, ap, ◌∙◌, arith, rules}}
use Rattle.argus_texts.specs.Spelling.{escaped}
use Rattle.argus_texts.proofs.Grown.{grew_more, quoted_step}
use Rattle.argus_texts.proofs.writing.append_quoted.Goals as goal

pub loop-first-preserved : goal.loop-first-preserved
loop-first-preserved c =
    let o = string_bytes c.loop-first.out in
    let p = c.split_plain.result.0.now in
    let s = quoted_step o p c.loop-first.rest.now c.split_plain.result.1.now c.in-Some.behind.now _ c.in-Some.first
    c.split_plain.ensures.whole c.in-Some.ensures.some.0 c.split_plain.ensures.plain c.loop-first.invariant.completes in
    let e = c.in_ok-append-3.ensures.written ∙ ap (λ x. x ++ c.escape_of.result.now) c.in_ok-append-2.ensures.written
    ∙ ap (λ x. (o ++ p) ++ x) c.escape_of.ensures in
    record {
      grew = grew_more _ _ _ c.loop-first.invariant.grew
          (grew_more _ _ _ c.in_ok-append-2.ensures.grew c.in_ok-append-3.ensures.grew);
      completes = ap (λ x. x ++ (escaped c.in-Some.behind.now ++ 34 ∷ [])) e ∙ s;
      utf8 = c.in-Some.ensures.utf8;
    }

pub returns-in_err-append-clause-grew : goal.returns-in_err-append-clause-grew
returns-in_err-append-clause-grew c = search rules

pub returns-in_err-append-clause-written : goal.returns-in_err-append-clause-written
returns-in_err-append-clause-written c = search rules

pub loop-first-init : goal.loop-first-init
loop-first-init c = grind (arith, common_steps)

pub split_plain-requires-text-text : goal.split_plain-requires-text-text
split_plain-requires-text-text c = search rules

pub append-requires-in-loop-first-text-text : goal.append-requires-in-loop-first-text-text
append-requires-in-loop-first-text-text c = search rules

pub returns-in_err-append-2-clause-grew : goal.returns-in_err-append-2-clause-grew
returns-in_err-append-2-clause-grew c = grind (arith, common_steps)

pub returns-in_err-append-2-clause-written : goal.returns-in_err-append-2-clause-written
returns-in_err-append-2-clause-written c = search rules

pub split_ascii-requires-text-text : goal.split_ascii-requires-text-text
split_ascii-requires-text-text c = search rules

pub returns-in_default-clause-grew : goal.returns-in_default-clause-grew
returns-in_default-clause-grew c = grind (arith, common_steps)

pub returns-in_default-clause-written : goal.returns-in_default-clause-written
returns-in_default-clause-written c = grind (arith, common_steps)

pub escape_of-requires : goal.escape_of-requires
escape_of-requires c = search rules

pub returns-in_err-append-3-clause-grew : goal.returns-in_err-append-3-clause-grew
returns-in_err-append-3-clause-grew c = grind (arith, common_steps)

pub returns-in_err-append-3-clause-written : goal.returns-in_err-append-3-clause-written
returns-in_err-append-3-clause-written c = search rules

pub loop-first-smaller : goal.loop-first-smaller
loop-first-smaller c = grind (arith, common_steps)
