-- Whose a log is, where it ends, and whether it is open.
use Rattle.std.specs.{Prelude.{◌≡◌, not, pos, string_bytes}, Ordering.int_eq}
use Rattle.argus_store.specs.{declared.head.Head.Head, Journal.Journal, End.EndsAt}

-- the log has this name, and ends there
abbrev pub IsHeadOf : Journal → Head → Type 0
IsHeadOf j head = EndsAt j (string_bytes head.name) head.end

-- the head says whether the log is open
abbrev pub SaysIfOpen : Journal → Head → Type 0
SaysIfOpen j head = head.is_open ≡ not (int_eq j.is_open (pos 0))
