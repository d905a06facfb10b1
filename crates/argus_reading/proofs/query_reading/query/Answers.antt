-- Reading stops where the last of the ways to go on stops.
use Rattle.argus_reading.proofs.{Unions.latter, Parts.{covered, queries}}
use Rattle.argus_texts.proofs.{Exits.passed, Stops.stops_behind}
use Rattle.std.proofs.Common.{[]}
use Rattle.argus_reading.specs.Operations.{QueryParts, Queries}
use Rattle.argus_reading.proofs.query_reading.query.Goals as goal

pub returns-clause-stops : goal.returns-clause-stops
returns-clause-stops c =
    let text = c.args.text.now in
    let all = latter _ _ text c.in-Err.stop c.in-Err-number_query.stop c.farther.result
    c.in-Err.ensures.stops c.in-Err-number_query.ensures.stops c.farther.ensures in
    passed c.farther.result _ _
    (λ left s. stops_behind [] QueryParts Queries (covered QueryParts Queries queries) text left s) all
