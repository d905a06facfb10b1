-- The number, the blank behind it, or the entry stops.
use Rattle.std.proofs.{lemmas.Result.err_from_is_err_and, Common.{[], ◌∷◌, ◌++◌}}
use Rattle.std.specs.Fmt.{decimal}
use Rattle.argus_texts.proofs.Stops.{pair_whole}
use Rattle.argus_reading.specs.Line.{Declares, DeclaresAt, Entries, Lines, Ordinals}
use Rattle.argus_reading.proofs.{Lacks.{from_part, lacks_in, handed_over}, Whole.{entry_part, line_joint, numbered}}
use Rattle.argus_reading.proofs.{Shaped.{blank_shaped, entry_shaped, number_shaped}, Words.{first_ends, joint_lacks}}
use Rattle.argus_reading.proofs.Words.{second_ends}
use Rattle.argus_reading.proofs.entry_reading.line.Goals as goal

pub returns-in_err-number-clause-stops : goal.returns-in_err-number-clause-stops
returns-in_err-number-clause-stops c =
    let p = err_from_is_err_and c.from_residual.result c.from_residual.ensures.1 in
    rw p.1 (from_part c.in_err-number.field-0.0 p.0 _ _ _ p.2
    (λ left s. (first_ends line_joint s, number_shaped c.args.text.now left s)) c.in_err-number.ensures.stops)

pub returns-in_err-rest-clause-stops : goal.returns-in_err-rest-clause-stops
returns-in_err-rest-clause-stops c =
    let p = err_from_is_err_and c.from_residual-in_err-rest.result c.from_residual-in_err-rest.ensures.1 in
    rw p.1 (from_part c.in_err-rest.field-0.0 p.0 _ _ _ p.2 (λ left s. (
      joint_lacks line_joint c.in_ok-number.ensures.read s,
      blank_shaped c.in_ok-number.ensures.read s.1,
    )) c.in_err-rest.ensures.stops)

pub returns-in_err-entry-clause-stops : goal.returns-in_err-entry-clause-stops
returns-in_err-entry-clause-stops c = handed_over c.from_residual-in_err-entry.result c.in_err-entry.field-0.0 _ _ _ _
    c.from_residual-in_err-entry.ensures.1 (λ left s. (
      second_ends line_joint c.in_ok-number.ensures.read
          c.in_ok-rest.ensures.read s.0,
      entry_shaped c.in_ok-number.ensures.read c.in_ok-rest.ensures.read s.1,
    )) (λ left s. lacks_in Declares DeclaresAt (decimal c.in_ok-number.number ++ 32 ∷ []) Entries Lines
    (λ f e. numbered c.in_ok-number.number f c.in_ok-number.ensures.read.good.1 e)
    (entry_part c.in_ok-number.number c.in_ok-number.ensures.read.good).starts c.args.text.now c.in_ok-rest.rest.now
    left (pair_whole Ordinals 32 c.args.text.now c.in_ok-number.number c.in_ok-number.rest.now c.in_ok-rest.rest.now
    c.in_ok-number.ensures.read c.in_ok-rest.ensures.read) s) c.in_err-entry.ensures.stops
