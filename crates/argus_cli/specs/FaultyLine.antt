-- What is written of a faulty line.
use Rattle.std.specs.{Fmt.decimal, Prelude.{List, codes, ℕ, ◌++◌}}
use Rattle.argus_cli.specs.{declared.faulty_line.FaultyLine.FaultyLine, declared.text_fault.TextFault.TextFault}
use Rattle.argus_cli.specs.declared.text_fault.TextFault.TheVariants as text
use Rattle.argus_guardian.specs.resume_declared.line_fault.LineFault.{LineFault}
use Rattle.argus_guardian.specs.resume_declared.line_fault.LineFault.TheVariants as line
use Rattle.argus_journal.specs.{EntrySpelling.reply_spelling, Reply.plain_reply}

-- a fault of a line, and where in it, or the reply that it ought to have
abbrev pub line_fault_text : LineFault → List ℕ
line_fault_text (line.NoText at) = codes "NoText at " ++ decimal at
line_fault_text line.NotAnOpening = codes "NotAnOpening"
line_fault_text (line.NoLine at) = codes "NoLine at " ++ decimal at
line_fault_text line.NotNext = codes "NotNext"
line_fault_text line.NotSound = codes "NotSound"
line_fault_text (line.NotTheReply reply) =
    codes "NotTheReply: " ++ reply_spelling (plain_reply reply)

-- the fault of a text
abbrev pub fault_text : TextFault → List ℕ
fault_text text.Torn = codes "Torn"
fault_text (text.Line fault) = line_fault_text fault

-- the number of the line, and its fault
abbrev pub faulty_line_text : FaultyLine → List ℕ
faulty_line_text f = (codes "line " ++ decimal f.line) ++ codes ": " ++ fault_text f.fault
