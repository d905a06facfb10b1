-- No shape comes behind its word, or none of the ways to go on does.
use Rattle.std.proofs.{Common.{[], subst, sym}, lemmas.Result.err_from_is_err_and}
use Rattle.std.specs.Prelude.{codes}
use Rattle.argus_texts.specs.Languages.{Word}
use Rattle.argus_texts.proofs.Stops.{stops_behind}
use Rattle.argus_reading.specs.{Calls.{ActionCalls, CallParts, Calls, ObjectCalls}, Combined.Either}
use Rattle.argus_reading.specs.Line.{Declares, Lacks}
use Rattle.argus_reading.proofs.{CallParts.{call_parts, shape_part}, Lacks.{from_part, handed_on, lacks_now}}
use Rattle.argus_reading.proofs.{Shaped.parts_shaped, Unions.latter}
use Rattle.argus_reading.proofs.call_reading.call.Goals as goal

pub returns-in_err-shape-in-Ok-clause-stops : goal.returns-in_err-shape-in-Ok-clause-stops
returns-in_err-shape-in-Ok-clause-stops c =
    let p = err_from_is_err_and c.from_residual.result c.from_residual.ensures.1 in
    let text = c.args.text.now in
    let others = c.in-Ok.others.now in
    rw (p.1, p.2) (handed_on c.in_err-shape-in-Ok.field-0.0 _ _ _ _ (λ left h. absurd h)
    (λ left h. subst (Lacks Declares Calls text) (sym h.0)
    (lacks_now Calls text others shape_part.starts c.in-Ok.ensures.read h.1)) c.in_err-shape-in-Ok.ensures.stops)

pub returns-clause-stops : goal.returns-clause-stops
returns-clause-stops c =
    let text = c.args.text.now in
    let others = latter ActionCalls ObjectCalls text c.in-Err-action_call.stop c.in-Err-object_call.stop
    c.farther.result c.in-Err-action_call.ensures.stops c.in-Err-object_call.ensures.stops c.farther.ensures in
    let all = latter (Word (codes "declare ")) (Either ActionCalls ObjectCalls) text c.in-Err.stop c.farther.result
    c.farther-2.result c.in-Err.ensures.stops others c.farther-2.ensures in
    from_part c.farther-2.result c.from.result _ _ _ c.from.ensures
    (λ left s. (stops_behind [] CallParts Calls call_parts text left s, parts_shaped text left s)) all
