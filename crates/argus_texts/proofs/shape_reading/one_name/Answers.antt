-- Where no name comes.
use Rattle.std.proofs.{lemmas.Grind.common_steps, Common.{Some, None, Err, ap, lit<, arith, rules}}
use Rattle.std.proofs.lemmas.Str.Pattern.{split_parts}
use Rattle.argus_texts.proofs.ShapeParts.{no_name, bad_name}
use Rattle.argus_texts.proofs.shape_reading.one_name.Goals as goal

pub returns-in_default-clause-refused : goal.returns-in_default-clause-refused
returns-in_default-clause-refused c =
    no_name c.args.text.now (split_parts 58 c.args.text.now None c.in_default.ensures.cases (lit< tt))

pub returns-in-Err-BadName-clause-refused : goal.returns-in-Err-BadName-clause-refused
returns-in-Err-BadName-clause-refused c =
    let p = split_parts 58 c.args.text.now (Some (c.in-Some.front, c.in-Some.rest)) c.in-Some.ensures.cases (lit< tt) in
    bad_name c.args.text.now c.in-Some.front.now c.in-Some.rest.now p.0 p.1
    (c.in-Err-BadName.ensures.bad.0 (ap Err c.in-Err-BadName.field-0-is))

pub new-requires-text-text : goal.new-requires-text-text
new-requires-text-text c = search rules

pub fact_in-rest : goal.fact_in-rest
fact_in-rest c = search rules

pub returns-in-Ok-clause-read : goal.returns-in-Ok-clause-read
returns-in-Ok-clause-read c = grind (arith, common_steps)
