-- By the kind of the value, and for values one after the other.
use Rattle.std.proofs.Common.{ap, rules, string_bytes, subst, ◌∙◌}
use Rattle.std.specs.Str.{IsUtf8}
use Rattle.argus_contents.specs.Value.{listed, plain_list, plain_value}
use Rattle.argus_resume.specs.WellFormed.{AreWellFormedValues, IsWellFormedValue}
use Rattle.argus_resume.proofs.WellFormedValues.{all_formed, atomic_formed, bool_formed, choice_formed, fields_formed}
use Rattle.argus_resume.proofs.WellFormedValues.{int_formed, null_formed, more_formed, sequence_formed, text_formed}
use Rattle.argus_resume.proofs.well_formed_values.+well_formed.Goals as goal

pub value_is_well_formed-returns : goal.value_is_well_formed-returns
value_is_well_formed-returns t c = search (rules, null_formed)

pub value_is_well_formed-returns-2 : goal.value_is_well_formed-returns-2
value_is_well_formed-returns-2 t c = search (rules, bool_formed)

pub value_is_well_formed-returns-in-Int : goal.value_is_well_formed-returns-in-Int
value_is_well_formed-returns-in-Int t c = int_formed _ _ c.in-Int.is c.integer.ensures

pub value_is_well_formed-returns-in-Text : goal.value_is_well_formed-returns-in-Text
value_is_well_formed-returns-in-Text t c = text_formed _ _ c.in-Text.is
    (subst IsUtf8 (c.as_str-text.ensures.value ∙ ap (λ s. string_bytes s) c.deref.ensures) c.as_str-text.utf8)

pub value_is_well_formed-returns-in-Atomic : goal.value_is_well_formed-returns-in-Atomic
value_is_well_formed-returns-in-Atomic t c = atomic_formed _ _ c.in-Atomic.is c.number.ensures

pub value_is_well_formed-returns-in-Sequence : goal.value_is_well_formed-returns-in-Sequence
value_is_well_formed-returns-in-Sequence t c = sequence_formed _ _ c.in-Sequence.is
    (subst (λ vs. AreWellFormedValues (listed (plain_list vs)))
    (c.deref-in-Sequence-2.ensures.value ∙ ap (λ v. v.items) c.deref-in-Sequence.ensures) c.values_are_well_formed.ensures)

pub value_is_well_formed-returns-in-Fields : goal.value_is_well_formed-returns-in-Fields
value_is_well_formed-returns-in-Fields t c = fields_formed _ _ c.in-Fields.is
    (subst (λ vs. AreWellFormedValues (listed (plain_list vs)))
    (c.deref-in-Fields-2.ensures.value ∙ ap (λ v. v.items) c.deref-in-Fields.ensures) c.values_are_well_formed-in-Fields.ensures)

pub value_is_well_formed-returns-in-Choice : goal.value_is_well_formed-returns-in-Choice
value_is_well_formed-returns-in-Choice t c = choice_formed _ _ _ c.in-Choice.is c.byte.ensures
    (subst (λ v. IsWellFormedValue (plain_value v)) c.deref-in-Choice.ensures c.value_is_well_formed.ensures)

pub values_are_well_formed-loop-value-preserved : goal.values_are_well_formed-loop-value-preserved
values_are_well_formed-loop-value-preserved t c = more_formed _ c.loop-value.value-index c.value-item.result
    c.loop-value-test.true c.loop-value.invariant
    (subst (λ v. IsWellFormedValue (plain_value v)) c.value-item.is c.value_is_well_formed.ensures)

pub values_are_well_formed-returns : goal.values_are_well_formed-returns
values_are_well_formed-returns t c = all_formed _ c.loop-value.value-index c.loop-value-test.false c.loop-value.invariant
