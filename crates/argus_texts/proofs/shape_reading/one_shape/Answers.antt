-- Where no shape comes.
use Rattle.std.proofs.Common.{◌++◌, codes, ap, ◌∙◌, rules}
use Rattle.argus_contents.specs.{Shape.{rec, arr, var}, Ty.{plain_fields, plain_ty}}
use Rattle.argus_texts.proofs.{ShapeParts.{no_record, no_array, no_variant, no_word, at_fault}, Exits.refused_on}
use Rattle.argus_texts.proofs.shape_reading.one_shape.Goals as goal

pub returns-in_err-fields-clause-refused : goal.returns-in_err-fields-clause-refused
returns-in_err-fields-clause-refused c =
    refused_on c.from_residual.result c.in_err-fields.field-0.0 _ _ c.from_residual.ensures.1
    (no_record c.args.text.now c.in-Some.others.now c.in-Some.ensures.some) c.in_err-fields.ensures.refused

pub returns-in_err-item-clause-refused : goal.returns-in_err-item-clause-refused
returns-in_err-item-clause-refused c =
    refused_on c.from_residual-in_err-item.result c.in_err-item.field-0.0 _ _ c.from_residual-in_err-item.ensures.1
    (no_array c.args.text.now c.in-Some-strip_word.others.now c.in-Some-strip_word.ensures.some)
    c.in_err-item.ensures.refused

pub returns-in_err-tags-clause-refused : goal.returns-in_err-tags-clause-refused
returns-in_err-tags-clause-refused c =
    refused_on c.from_residual-in_err-tags.result c.in_err-tags.field-0.0 _ _ c.from_residual-in_err-tags.ensures.1
    (no_variant c.args.text.now c.in-Some-strip_word-2.others.now c.in-Some-strip_word-2.ensures.some)
    c.in_err-tags.ensures.refused

pub returns-in_default-rec-clause-refused : goal.returns-in_default-rec-clause-refused
returns-in_default-rec-clause-refused c =
    let r = c.in_ok-fields.ensures.read in
    at_fault c.args.text.now c.in_ok-fields.rest.now (rec (plain_fields c.in_ok-fields.fields.items)) r.good
    (c.in-Some.ensures.some ∙ ap (λ x. codes "atomic_record[" ++ x) r.is)
    (λ n. let x = c.in_default-rec.ensures.fault ∙ n in cc)

pub returns-in_default-arr-clause-refused : goal.returns-in_default-arr-clause-refused
returns-in_default-arr-clause-refused c =
    let r = c.in_ok-item.ensures.read in
    at_fault c.args.text.now c.in_ok-item.rest.now (arr (plain_ty c.in_ok-item.item)) r.good
    (c.in-Some-strip_word.ensures.some ∙ ap (λ x. codes "atomic_array[" ++ x) r.is)
    (λ n. let x = c.in_default-arr.ensures.fault ∙ n in cc)

pub returns-in_default-var-clause-refused : goal.returns-in_default-var-clause-refused
returns-in_default-var-clause-refused c =
    let r = c.in_ok-tags.ensures.read in
    at_fault c.args.text.now c.in_ok-tags.rest.now (var (plain_fields c.in_ok-tags.tags.items)) r.good
    (c.in-Some-strip_word-2.ensures.some ∙ ap (λ x. codes "atomic_variant[" ++ x) r.is)
    (λ n. let x = c.in_default-var.ensures.fault ∙ n in cc)

pub returns-clause-refused : goal.returns-clause-refused
returns-clause-refused c = no_word c.args.text.now c.in_default.ensures.none c.in_default-strip_word.ensures.none
    c.in_default-strip_word-2.ensures.none

pub names-requires-text-text : goal.names-requires-text-text
names-requires-text-text c = search rules

pub returns-in_err-fields-clause-read : goal.returns-in_err-fields-clause-read
returns-in_err-fields-clause-read c = search rules

pub fact_in-rest : goal.fact_in-rest
fact_in-rest c = search rules

pub returns-in-Some-clause-read : goal.returns-in-Some-clause-read
returns-in-Some-clause-read c = search rules

pub closed_ty-requires-text-text : goal.closed_ty-requires-text-text
closed_ty-requires-text-text c = search rules

pub returns-in_err-item-clause-read : goal.returns-in_err-item-clause-read
returns-in_err-item-clause-read c = search rules

pub fact_in-rest-in-Some-strip_word : goal.fact_in-rest-in-Some-strip_word
fact_in-rest-in-Some-strip_word c = search rules

pub returns-in-Some-strip_word-clause-read : goal.returns-in-Some-strip_word-clause-read
returns-in-Some-strip_word-clause-read c = search rules

pub names-requires-in-Some-strip_word-2-text-text : goal.names-requires-in-Some-strip_word-2-text-text
names-requires-in-Some-strip_word-2-text-text c = search rules

pub returns-in_err-tags-clause-read : goal.returns-in_err-tags-clause-read
returns-in_err-tags-clause-read c = search rules

pub fact_in-rest-in-Some-strip_word-2 : goal.fact_in-rest-in-Some-strip_word-2
fact_in-rest-in-Some-strip_word-2 c = search rules

pub returns-in-Some-strip_word-2-clause-read : goal.returns-in-Some-strip_word-2-clause-read
returns-in-Some-strip_word-2-clause-read c = search rules
