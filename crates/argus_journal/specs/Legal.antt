-- When a journal is legal.
use Rattle.std.specs.{Coded.{Coded-set, Unit-prop, ×_prop}, Prelude.{List, [], ◌∷◌, ◌≡◌}}
use Rattle.argus_entries.specs.{Entry.PlainEntry, EntryCode.reply_coded}
use Rattle.argus_journal.specs.{Answers.answer, Opening.Opening}

-- each reply is the answer of the entries before it
abbrev pub Legal : Opening → List PlainEntry → Type 0
Legal s [] = Unit {0}
Legal s (e ∷ older) = (e.reply ≡ answer s older e.call) × Legal s older

-- a journal is legal in at most one way, so that the fact can be part of a type
pub Legal-prop : (s : Opening) (j : List PlainEntry) → IsProp (Legal s j)
Legal-prop s [] = Unit-prop
Legal-prop s (e ∷ older) =
    ×_prop (Coded-set reply_coded e.reply (answer s older e.call)) (Legal-prop s older)
