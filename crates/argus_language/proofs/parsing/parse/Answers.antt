-- Each line more keeps what was read in step with the lines; at the end no line is left.
use Rattle.std.proofs.Common.{◌≡◌, [], ◌∷◌, ◌+◌, ◌-◌, length, ◌∙◌, ap, arith, refl}
use Rattle.argus_language.specs.{Fault.{IsFaultOf, NoFault}, Lines.lines_of, Parsed.{IsUnclosedAt, OnScriptFault}}
use Rattle.argus_language.specs.{Reading.{levels_of, lines_so_far}, Script.{Spells, plain_script}}
use Rattle.argus_language.proofs.Ends.{end_fine, end_spells, end_unclosed, err_more, no_lines, ok_more, ok_thrice}
use Rattle.argus_language.proofs.Faults.{declares-more, fine-more, first-fault, here_at, position-more, told-more}
use Rattle.argus_language.proofs.Starts.{start-declares, start-position, start-sound, start-told}
use Rattle.argus_language.proofs.parsing.parse.Goals as goal

pub loop-rest-init : goal.loop-rest-init
loop-rest-init c =
    let new = c.new-reading.result in
    let h = c.new-reading.ensures in
    record {
      left = refl;
      position = start-position (length c.args.bytes.now) new.blocks.items h.none_open;
      objects = start-declares new.objects h.objects;
      said = start-told new.objects new.blocks.items new.steps.items h.none_open h.no_steps;
      sound = start-sound new.blocks.items new.steps.items h.none_open h.no_steps;
      fine = λ i less. absurd (omega arith);
      most = omega arith;
      within = omega arith;
    }

pub returns-in-Err-Fault-clause-fault : goal.returns-in-Err-Fault-clause-fault
returns-in-Err-Fault-clause-fault c =
    let I = c.loop-rest.invariant in
    let lines = lines_of c.args.bytes.now in
    let i = c.loop-rest.lines in
    let line = c.split_at.result.0.now in
    let others = c.split_at.result.1.now in
    let first : lines_of c.loop-rest.rest.now ≡ line ∷ lines_of others =
    rw (c.split_at.ensures.front, c.split_at.ensures.back) c.first_line_len.ensures.line in
    let h = here_at lines i line (lines_of others) (I.left ∙ first) in
    let f = rw c.in-Err-Fault.field-0-is at c.in-Err-Fault.ensures.fault in
    rw (c.fault_at.ensures, c.in-Err-Fault.field-0-is) (first-fault lines i line c.loop-rest.reading.objects _
    c.in-Err-Fault.kind h.here I.objects I.position f I.fine)

pub loop-rest-preserved : goal.loop-rest-preserved
loop-rest-preserved c =
    let I = c.loop-rest.invariant in
    let new = c.in-Ok.ensures in
    let old-reading = c.loop-rest.reading in
    let new-reading = c.take.new.self in
    let lines = lines_of c.args.bytes.now in
    let i = c.loop-rest.lines in
    let line = c.split_at.result.0.now in
    let others = c.split_at.result.1.now in
    let first : lines_of c.loop-rest.rest.now ≡ line ∷ lines_of others =
    rw (c.split_at.ensures.front, c.split_at.ensures.back) c.first_line_len.ensures.line in
    let h = here_at lines i line (lines_of others) (I.left ∙ first) in
    let count : (length c.args.bytes.now - length c.loop-rest.rest.now) + length line
    ≡ length c.args.bytes.now - length others = omega arith in
    record {
      left = h.left;
      position = position-more lines i _ _ line (levels_of old-reading.blocks.items)
          (levels_of new-reading.blocks.items) h.front I.position count new.levels;
      objects = declares-more lines i line old-reading.objects new-reading.objects h.front I.objects
          new.names new.shapes new.makeable;
      said = told-more lines i line old-reading.objects new-reading.objects
          (lines_so_far old-reading.blocks.items old-reading.steps.items)
          (lines_so_far new-reading.blocks.items new-reading.steps.items)
          h.front new.names new.kept new.fine.1.0 new.lines I.said;
      sound = new.sound;
      fine = fine-more lines i line old-reading.objects _ h.here I.objects I.position new.fine I.fine;
      most = omega arith;
      within = omega arith;
    }

pub returns-clause-spells : goal.returns-clause-spells
returns-clause-spells c =
    let I = c.loop-rest.invariant in
    let lines = lines_of c.args.bytes.now in
    let left = I.left ∙ no_lines c.loop-rest.rest.now (omega arith) in
    let reading = c.loop-rest.reading in
    ok_thrice c.whole.result (reading.blocks.items ≡ []) _ _ (λ script. Spells lines (plain_script script))
    (λ script g h k. end_spells lines c.loop-rest.lines left reading.objects reading.blocks.items
    reading.steps.items script I.said I.objects I.sound g h (ap (λ v. v.items) k))
    c.whole.ensures.blocks c.whole.ensures.objects c.whole.ensures.steps

pub returns-clause-fine : goal.returns-clause-fine
returns-clause-fine c =
    let I = c.loop-rest.invariant in
    let lines = lines_of c.args.bytes.now in
    let left = I.left ∙ no_lines c.loop-rest.rest.now (omega arith) in
    let reading = c.loop-rest.reading in
    ok_more c.whole.result (reading.blocks.items ≡ []) (NoFault lines)
    (λ h. end_fine lines c.loop-rest.lines left _ (levels_of reading.blocks.items) I.position refl
    (ap levels_of h) I.fine) c.whole.ensures.blocks

pub returns-clause-fault : goal.returns-clause-fault
returns-clause-fault c =
    let I = c.loop-rest.invariant in
    let lines = lines_of c.args.bytes.now in
    let left = I.left ∙ no_lines c.loop-rest.rest.now (omega arith) in
    let reading = c.loop-rest.reading in
    err_more c.whole.result (IsUnclosedAt (levels_of reading.blocks.items)) (λ e. OnScriptFault e (IsFaultOf lines))
    (λ e h. end_unclosed lines c.loop-rest.lines left _ (levels_of reading.blocks.items) e I.position refl I.fine h)
    c.whole.ensures.unclosed
