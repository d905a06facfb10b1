-- A line that is UTF-8 says what its text says; any other is bad.
use Rattle.std.proofs.{Common.{cond, sym, ap, ◌∙◌}, lemmas.Bool.false_from_ne_true}
use Rattle.std.proofs.lemmas.Str.{IsUtf8-from_is_utf8, is_utf8-from_IsUtf8}
use Rattle.std.specs.Str.{is_utf8}
use Rattle.argus_language.specs.Command.{command_of_text, bad}
use Rattle.argus_language.proofs.line_reading.read_line.Goals as goal

pub returns-in-Ok : goal.returns-in-Ok
returns-in-Ok c =
    let bytes = c.args.bytes.now in
    let h = c.in-Ok.ensures.cases in
    c.read_text.ensures ∙ ap command_of_text h.0 ∙ sym (ap (λ t. cond t (command_of_text bytes) bad)
    (is_utf8-from_IsUtf8 bytes h.1))

pub returns-in-Err : goal.returns-in-Err
returns-in-Err c =
    let bytes = c.args.bytes.now in
    let refused = c.in-Err.ensures.cases.0 in
    sym (ap (λ t. cond t (command_of_text bytes) bad) (false_from_ne_true (is_utf8 bytes)
    (λ e. refused (IsUtf8-from_is_utf8 bytes e))))
