-- Where each part of a value stops.
use Rattle.std.proofs.{Common.{◌-◌, [], ◌∷◌, length, sym, ap, ◌∙◌, subst, inl, inr}, lemmas.Result.IfErr-weaker}
use Rattle.std.specs.Prelude.{codes}
use Rattle.argus_contents.specs.Value.{plain_value, plain_list}
use Rattle.argus_texts.specs.{Language.{First, Stops}, Languages.{BeginsInt, Choices, Ints, Insides, Numbers, Quoted}}
use Rattle.argus_texts.specs.Languages.{Values, Word}
use Rattle.argus_texts.proofs.{Choices.{tag_stops, colon_stops, part_stops, angle_stops}, Exits.{passed, passed_on}}
use Rattle.argus_texts.proofs.Items.{NoEnd, first_stops, comma_stops, no_end_stops, no_ascii_end, inside_stops}
use Rattle.argus_texts.proofs.{Items.{deep_stops, closes, goes_on, one_more}, Stops.{stops_in, stops_among}}
use Rattle.argus_texts.proofs.Values.{null_word, true_word, false_word, quote, at_sign, integer, bracket, brace, angle}
use Rattle.argus_texts.proofs.Values.{first_other, other_stops, no_ascii_other}
use Rattle.argus_texts.proofs.reading.+reading.Goals as goal

pub choice-returns-in_err-tag-clause-stops : goal.choice-returns-in_err-tag-clause-stops
choice-returns-in_err-tag-clause-stops t c =
    passed_on c.from_residual.result c.in_err-tag.field-0.0 _ _ c.from_residual.ensures.1
    (λ left s. tag_stops c.args.levels c.requires.1.1 c.args.text.now left s) c.in_err-tag.ensures.stops

pub choice-returns-in_err-rest-clause-stops : goal.choice-returns-in_err-rest-clause-stops
choice-returns-in_err-rest-clause-stops t c =
    passed_on c.from_residual-in_err-rest.result c.in_err-rest.field-0.0 _ _ c.from_residual-in_err-rest.ensures.1
    (λ left s. subst (Stops (Choices c.args.levels) c.args.text.now) (sym s.0)
    (colon_stops c.args.levels c.requires.1.1 c.args.text.now c.in_ok-tag.tag c.in_ok-tag.rest.now
    c.in_ok-tag.ensures.read s.1)) c.in_err-rest.ensures.stops

pub choice-returns-in_err-part-clause-stops : goal.choice-returns-in_err-part-clause-stops
choice-returns-in_err-part-clause-stops t c =
    passed_on c.from_residual-in_err-part.result c.in_err-part.field-0.0 _ _ c.from_residual-in_err-part.ensures.1
    (λ left s. part_stops c.args.levels c.args.text.now c.in_ok-tag.tag c.in_ok-tag.rest.now c.in_ok-rest.rest.now left
    c.in_ok-tag.ensures.read c.in_ok-rest.ensures.read s) c.in_err-part.ensures.stops

pub choice-returns-in_err-rest-2-clause-stops : goal.choice-returns-in_err-rest-2-clause-stops
choice-returns-in_err-rest-2-clause-stops t c =
    passed_on c.from_residual-in_err-rest-2.result c.in_err-rest-2.field-0.0 _ _ c.from_residual-in_err-rest-2.ensures.1
    (λ left s. subst (Stops (Choices c.args.levels) c.args.text.now) (sym s.0)
    (angle_stops c.args.levels c.args.text.now c.in_ok-tag.tag c.in_ok-tag.rest.now c.in_ok-rest.rest.now
    (plain_value c.in_ok-part.part) c.in_ok-part.rest.now c.in_ok-tag.ensures.read c.in_ok-rest.ensures.read
    c.in_ok-part.ensures.read s.1)) c.in_err-rest-2.ensures.stops

pub compound-returns-in_default-clause-stops : goal.compound-returns-in_default-clause-stops
compound-returns-in_default-clause-stops t c = other_stops c.args.levels c.requires.1.1.0 c.args.text.now
    (no_ascii_other c.args.levels c.args.text.now c.in_default.ensures.none)

pub compound-returns-in_err-items-clause-stops : goal.compound-returns-in_err-items-clause-stops
compound-returns-in_err-items-clause-stops t c =
    passed_on c.from_residual.result c.in_err-items.field-0.0 _ _ c.from_residual.ensures.1
    (λ left s. stops_in (91 ∷ []) (Insides 93 (c.args.levels - 1)) (Values c.args.levels)
    (bracket c.args.levels c.requires.1.1.0) c.args.text.now c.in-Some.others.now left
    (c.in-Some.ensures.some.0 ∙ ap (λ m. m ∷ c.in-Some.others.now) c.if-first-eq91.true) s) c.in_err-items.ensures.stops

pub compound-returns-in_err-fields-clause-stops : goal.compound-returns-in_err-fields-clause-stops
compound-returns-in_err-fields-clause-stops t c =
    passed_on c.from_residual-in_err-fields.result c.in_err-fields.field-0.0 _ _ c.from_residual-in_err-fields.ensures.1
    (λ left s. stops_in (123 ∷ []) (Insides 125 (c.args.levels - 1)) (Values c.args.levels)
    (brace c.args.levels c.requires.1.1.0) c.args.text.now c.in-Some.others.now left
    (c.in-Some.ensures.some.0 ∙ ap (λ m. m ∷ c.in-Some.others.now) c.if-first-eq123.true) s)
    c.in_err-fields.ensures.stops

pub compound-returns-then-first-ne60-clause-stops : goal.compound-returns-then-first-ne60-clause-stops
compound-returns-then-first-ne60-clause-stops t c = other_stops c.args.levels c.requires.1.1.0 c.args.text.now
    (first_other c.args.levels _ _ c.args.text.now c.in-Some.ensures.some.0 c.requires.1.1.1 c.if-first-eq91.false
    c.if-first-eq123.false (inl c.if-first-ne60.true))

pub compound-returns-then-levels-eq1-clause-stops : goal.compound-returns-then-levels-eq1-clause-stops
compound-returns-then-levels-eq1-clause-stops t c = other_stops c.args.levels c.requires.1.1.0 c.args.text.now
    (first_other c.args.levels _ _ c.args.text.now c.in-Some.ensures.some.0 c.requires.1.1.1 c.if-first-eq91.false
    c.if-first-eq123.false (inr c.if-levels-eq1.true))

pub compound-returns-in_err-tag-clause-stops : goal.compound-returns-in_err-tag-clause-stops
compound-returns-in_err-tag-clause-stops t c =
    passed_on c.from_residual-in_err-tag.result c.in_err-tag.field-0.0 _ _ c.from_residual-in_err-tag.ensures.1
    (λ left s. stops_in (60 ∷ []) (Choices (c.args.levels - 1)) (Values c.args.levels)
    (angle c.args.levels c.requires.1.1.0) c.args.text.now c.in-Some.others.now left
    (c.in-Some.ensures.some.0 ∙ ap (λ m. m ∷ c.in-Some.others.now) c.if-first-ne60.false) s) c.in_err-tag.ensures.stops

pub inside-returns-then-levels-eq0-clause-stops : goal.inside-returns-then-levels-eq0-clause-stops
inside-returns-then-levels-eq0-clause-stops t c =
    subst (λ k. Stops (Insides c.args.close k) c.args.text.now (length c.args.text.now)) (sym c.if-levels-eq0.true)
    (deep_stops c.args.close c.args.text.now c.in_default.ensures.none)

pub inside-returns-in_default-clause-stops : goal.inside-returns-in_default-clause-stops
inside-returns-in_default-clause-stops t c = IfErr-weaker c.items.result _ _ (λ e. passed e _ _
    (λ left. inside_stops c.args.close c.args.levels c.args.text.now left c.in_default.ensures.none))
    c.items.ensures.stops

pub items-returns-in_err-item-clause-stops : goal.items-returns-in_err-item-clause-stops
items-returns-in_err-item-clause-stops t c =
    passed_on c.from_residual.result c.in_err-item.field-0.0 _ _ c.from_residual.ensures.1
    (λ left s. c.loop-items.invariant.stops left (first_stops c.args.close c.requires.1.1.1 c.args.levels
    c.loop-items.rest.now left s)) c.in_err-item.ensures.stops

pub items-returns-in_default-clause-stops : goal.items-returns-in_default-clause-stops
items-returns-in_default-clause-stops t c = c.loop-items.invariant.stops _
    (no_end_stops c.args.close c.requires.1.1.1 c.args.levels (plain_value c.in_ok-item.item)
    c.loop-items.rest.now c.in_ok-item.behind.now c.in_ok-item.ensures.read
    (no_ascii_end c.args.close c.requires.1.1.1 c.in_ok-item.behind.now c.in_default.ensures.none))

pub items-returns-then-first-close-clause-read : goal.items-returns-then-first-close-clause-read
items-returns-then-first-close-clause-read t c =
    closes c.args.close c.args.levels c.args.text.now c.loop-items.rest.now c.in_ok-item.behind.now c.in-Some.others.now
    (plain_list c.loop-items.items.items) (plain_list c.push.new.self.items) (plain_value c.in_ok-item.item)
    c.loop-items.invariant.reads c.in_ok-item.ensures.read
    (c.in-Some.ensures.some.0 ∙ ap (λ m. m ∷ c.in-Some.others.now) c.if-first-close.true)
    (one_more c.loop-items.items.items c.push.new.self.items c.in_ok-item.item c.in_ok-push.ensures.items)

pub items-returns-then-first-ne44-clause-stops : goal.items-returns-then-first-ne44-clause-stops
items-returns-then-first-ne44-clause-stops t c = c.loop-items.invariant.stops _
    (no_end_stops c.args.close c.requires.1.1.1 c.args.levels (plain_value c.in_ok-item.item)
    c.loop-items.rest.now c.in_ok-item.behind.now c.in_ok-item.ensures.read
    (subst (First (NoEnd c.args.close)) (sym c.in-Some.ensures.some.0) (c.if-first-ne44.true, c.if-first-close.false)))

pub items-loop-items-preserved : goal.items-loop-items-preserved
items-loop-items-preserved t c =
    let e = c.in-Some.ensures.some.0 ∙ ap (λ m. m ∷ c.in-Some.others.now) c.if-first-ne44.false in
    record {
      stops = λ left s. c.loop-items.invariant.stops left
          (comma_stops c.args.close c.requires.1.1.1 c.args.levels (plain_value c.in_ok-item.item)
          c.loop-items.rest.now c.in_ok-item.behind.now c.in-Some.others.now left c.in_ok-item.ensures.read e s);
      reads = goes_on c.args.close c.args.levels c.args.text.now c.loop-items.rest.now c.in_ok-item.behind.now
          c.in-Some.others.now (plain_list c.loop-items.items.items) (plain_list c.push.new.self.items)
          (plain_value c.in_ok-item.item) c.loop-items.invariant.reads c.in_ok-item.ensures.read e
          (one_more c.loop-items.items.items c.push.new.self.items c.in_ok-item.item c.in_ok-push.ensures.items);
      utf8 = c.in-Some.ensures.utf8;
    }

pub one_value-returns-in_default-clause-stops : goal.one_value-returns-in_default-clause-stops
one_value-returns-in_default-clause-stops t c = other_stops c.args.levels c.requires.1.1 c.args.text.now
    (no_ascii_other c.args.levels c.args.text.now c.in_default.ensures.none)

pub one_value-returns-in_err-rest-clause-stops : goal.one_value-returns-in_err-rest-clause-stops
one_value-returns-in_err-rest-clause-stops t c =
    passed_on c.from_residual.result c.in_err-rest.field-0.0 _ _ c.from_residual.ensures.1
    (λ left s. stops_in (110 ∷ []) (Word (codes "ull")) (Values c.args.levels) (null_word c.args.levels c.requires.1.1)
    c.args.text.now c.in-Some.others.now left (c.in-Some.ensures.some.0 ∙ ap (λ m. m ∷ c.in-Some.others.now)
    c.if-first-eq110.true) s) c.in_err-rest.ensures.stops

pub one_value-returns-in_err-rest-2-clause-stops : goal.one_value-returns-in_err-rest-2-clause-stops
one_value-returns-in_err-rest-2-clause-stops t c =
    passed_on c.from_residual-in_err-rest-2.result c.in_err-rest-2.field-0.0 _ _ c.from_residual-in_err-rest-2.ensures.1
    (λ left s. stops_in (116 ∷ []) (Word (codes "rue")) (Values c.args.levels) (true_word c.args.levels c.requires.1.1)
    c.args.text.now c.in-Some.others.now left (c.in-Some.ensures.some.0 ∙ ap (λ m. m ∷ c.in-Some.others.now)
    c.if-first-eq116.true) s) c.in_err-rest-2.ensures.stops

pub one_value-returns-in_err-rest-3-clause-stops : goal.one_value-returns-in_err-rest-3-clause-stops
one_value-returns-in_err-rest-3-clause-stops t c =
    passed_on c.from_residual-in_err-rest-3.result c.in_err-rest-3.field-0.0 _ _ c.from_residual-in_err-rest-3.ensures.1
    (λ left s. stops_in (102 ∷ []) (Word (codes "alse")) (Values c.args.levels)
    (false_word c.args.levels c.requires.1.1) c.args.text.now c.in-Some.others.now left
    (c.in-Some.ensures.some.0 ∙ ap (λ m. m ∷ c.in-Some.others.now) c.if-first-eq102.true) s)
    c.in_err-rest-3.ensures.stops

pub one_value-returns-in_err-read-clause-stops : goal.one_value-returns-in_err-read-clause-stops
one_value-returns-in_err-read-clause-stops t c =
    passed_on c.from_residual-in_err-read.result c.in_err-read.field-0.0 _ _ c.from_residual-in_err-read.ensures.1
    (λ left s. stops_in (34 ∷ []) Quoted (Values c.args.levels) (quote c.args.levels c.requires.1.1) c.args.text.now
    c.in-Some.others.now left (c.in-Some.ensures.some.0 ∙ ap (λ m. m ∷ c.in-Some.others.now) c.if-first-eq34.true) s)
    c.in_err-read.ensures.stops

pub one_value-returns-in_err-object-clause-stops : goal.one_value-returns-in_err-object-clause-stops
one_value-returns-in_err-object-clause-stops t c =
    passed_on c.from_residual-in_err-object.result c.in_err-object.field-0.0 _ _ c.from_residual-in_err-object.ensures.1
    (λ left s. stops_in (64 ∷ []) (Numbers 0 4294967295) (Values c.args.levels) (at_sign c.args.levels c.requires.1.1)
    c.args.text.now c.in-Some.others.now left (c.in-Some.ensures.some.0 ∙ ap (λ m. m ∷ c.in-Some.others.now)
    c.if-first-eq64.true) s) c.in_err-object.ensures.stops

pub one_value-returns-in_err-number-clause-stops : goal.one_value-returns-in_err-number-clause-stops
one_value-returns-in_err-number-clause-stops t c =
    passed_on c.from_residual-in_err-number.result c.in_err-number.field-0.0 _ _ c.from_residual-in_err-number.ensures.1
    (λ left s. stops_among BeginsInt Ints (Values c.args.levels) (integer c.args.levels c.requires.1.1) c.args.text.now
    left (subst (First BeginsInt) (sym c.in-Some.ensures.some.0) (c.begins_int.ensures.yes c.if-begins_int.true)) s)
    c.in_err-number.ensures.stops
