-- The call, the blank behind it, or the reply stops.
use Rattle.std.proofs.{lemmas.Result.err_from_is_err_and, Common.{[], refl}}
use Rattle.argus_reading.specs.{Calls.Calls, Line.{Declares, Entries}}
use Rattle.argus_reading.proofs.{Lacks.{from_part, lacks_in, handed_over}, Shaped.call_shaped, Whole.call_part}
use Rattle.argus_reading.proofs.{Whole.entry_joint, Words.{first_ends, joint_lacks, second_ends}}
use Rattle.argus_reading.proofs.entry_reading.entry.Goals as goal

pub returns-in_err-call-clause-stops : goal.returns-in_err-call-clause-stops
returns-in_err-call-clause-stops c =
    handed_over c.from_residual.result c.in_err-call.field-0.0 _ _ _ _ c.from_residual.ensures.1
    (λ left s. (first_ends entry_joint s.0, s.1)) (λ left s. lacks_in Declares Declares [] Calls Entries (λ f e. e)
    call_part.starts c.args.text.now c.args.text.now left refl s) c.in_err-call.ensures.stops

pub returns-in_err-rest-clause-stops : goal.returns-in_err-rest-clause-stops
returns-in_err-rest-clause-stops c =
    let p = err_from_is_err_and c.from_residual-in_err-rest.result c.from_residual-in_err-rest.ensures.1 in
    rw p.1 (from_part c.in_err-rest.field-0.0 p.0 _ _ _ p.2 (λ left s. (
      joint_lacks entry_joint c.in_ok-call.ensures.read s,
      call_shaped c.in_ok-call.ensures.read,
    )) c.in_err-rest.ensures.stops)

pub returns-in_err-reply-clause-stops : goal.returns-in_err-reply-clause-stops
returns-in_err-reply-clause-stops c =
    let p = err_from_is_err_and c.from_residual-in_err-reply.result c.from_residual-in_err-reply.ensures.1 in
    rw p.1 (from_part c.in_err-reply.field-0.0 p.0 _ _ _ p.2 (λ left s. (
      second_ends entry_joint c.in_ok-call.ensures.read c.in_ok-rest.ensures.read s,
      call_shaped c.in_ok-call.ensures.read,
    )) c.in_err-reply.ensures.stops)
