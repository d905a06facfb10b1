-- Where each part of an array stops.
use Rattle.std.proofs.{lemmas.Grind.common_steps, Common.{sym, subst, arith, rules}}
use Rattle.argus_texts.specs.{Language.Stops, Languages.Contents}
use Rattle.argus_texts.proofs.{Contents.{neither, low_stops, bracket_stops, items_stops}, Exits.passed_on}
use Rattle.argus_texts.proofs.content_reading.array.Goals as goal

pub returns-in_err-low-clause-stops : goal.returns-in_err-low-clause-stops
returns-in_err-low-clause-stops c =
    passed_on c.from_residual.result c.in_err-low.field-0.0 _ _ c.from_residual.ensures.1
    (λ left s. low_stops 16 c.args.text.now left (neither c.args.text.now c.requires.0 c.requires.1) s)
    c.in_err-low.ensures.stops

pub returns-in_err-rest-clause-stops : goal.returns-in_err-rest-clause-stops
returns-in_err-rest-clause-stops c =
    passed_on c.from_residual-in_err-rest.result c.in_err-rest.field-0.0 _ _ c.from_residual-in_err-rest.ensures.1
    (λ left s. subst (Stops (Contents 16) c.args.text.now) (sym s.0)
    (bracket_stops 16 c.args.text.now c.in_ok-low.low c.in_ok-low.rest.now
    (neither c.args.text.now c.requires.0 c.requires.1) c.in_ok-low.ensures.read s.1)) c.in_err-rest.ensures.stops

pub returns-in_err-items-clause-stops : goal.returns-in_err-items-clause-stops
returns-in_err-items-clause-stops c =
    passed_on c.from_residual-in_err-items.result c.in_err-items.field-0.0 _ _ c.from_residual-in_err-items.ensures.1
    (λ left s. items_stops 16 c.args.text.now c.in_ok-low.low c.in_ok-low.rest.now c.in_ok-rest.rest.now left
    (neither c.args.text.now c.requires.0 c.requires.1) c.in_ok-low.ensures.read c.in_ok-rest.ensures.read s)
    c.in_err-items.ensures.stops

pub returns-in_err-low-clause-read : goal.returns-in_err-low-clause-read
returns-in_err-low-clause-read c = search rules

pub expect-requires-text-text : goal.expect-requires-text-text
expect-requires-text-text c = search rules

pub returns-in_err-rest-clause-read : goal.returns-in_err-rest-clause-read
returns-in_err-rest-clause-read c = search rules

pub inside-requires-text-text : goal.inside-requires-text-text
inside-requires-text-text c = search rules

pub returns-in_err-items-clause-read : goal.returns-in_err-items-clause-read
returns-in_err-items-clause-read c = search rules

pub fact_in-rest : goal.fact_in-rest
fact_in-rest c = search rules

pub returns-clause-read : goal.returns-clause-read
returns-clause-read c = grind (arith, common_steps)
