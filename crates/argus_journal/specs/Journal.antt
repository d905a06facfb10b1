-- What contracts see of a `Journal`: its opening, its entries, and room for how many more there is.
use Rattle.std.specs.Prelude.{List, None, Option, Some, [], if◌then◌else◌, length, map, nat_lt, reverse, slice_get}
use Rattle.std.specs.{Prelude.{take, ℕ, ◌-◌, ◌∷◌, ◌≡◌, ◌≤◌}, Borrow.Bor}
use Rattle.argus_actions.specs.declared.action_id.ActionId.{ActionId}
use Rattle.argus_contents.specs.{Content.{PlainContent, plain_option}, Shape.PlainShape, declared.shape.Shape.Shape}
use Rattle.argus_contents.specs.declared.content.Content.{Content}
use Rattle.argus_entries.specs.{Entry.{PlainEntry, plain_entry}, declared.entry.Entry.Entry}
use Rattle.argus_journal.specs.{Chunks.{chunk_room, chunked}, Legal.{Legal, Legal-prop}}
use Rattle.argus_journal.specs.{Opening.{Opening, opening_with}, declared.journal.Journal.Journal}

-- where the journal begins
abbrev pub opening_of : Journal → Opening
opening_of j = opening_with j.objects.items j.first_action j.first_entry

-- what an object of the opening says, if there is one
abbrev pub plain_opened : Option (Bor Shape × Bor (Option Content))
    → Option (PlainShape × Option PlainContent)
plain_opened None = None
plain_opened (Some object) = Some (object.0.now, plain_option object.1.now)

-- what entries say, the newest first
abbrev pub newest_first : List Entry → List PlainEntry
newest_first entries = reverse (map plain_entry entries)

-- the entries since then, the newest first
abbrev pub entries_of : Journal → List PlainEntry
entries_of j = newest_first (chunked j.entries)

-- this many of them from the first on, the newest first
abbrev pub first_entries_of : Journal → ℕ → List PlainEntry
first_entries_of j n = newest_first (take n (chunked j.entries))

-- the journal has so many entries
abbrev pub HasEntries : Journal → ℕ → Type 0
HasEntries j n = n ≤ length (chunked j.entries)

-- the newest of some entries, and the older ones; or there is none
abbrev pub IsNewest : Option PlainEntry → List PlainEntry → List PlainEntry → Type 0
IsNewest None entries older = entries ≡ []
IsNewest (Some entry) entries older = entries ≡ entry ∷ older

-- each reply is the answer of the entries before it
abbrev pub IsLegal : Journal → Type 0
IsLegal j = Legal (opening_of j) (entries_of j)

-- a journal is legal exactly if that holds
pub IsLegal-prop : (j : Journal) → IsProp (IsLegal j)
IsLegal-prop j = Legal-prop (opening_of j) (entries_of j)

-- room for how many more entries there is
abbrev pub room_of : Journal → ℕ
room_of j = chunk_room j.entries

-- the entry of a number, if the journal has it; the first one has the number of the opening's first
-- entry
abbrev pub entry_at : Opening → List PlainEntry → ℕ → Option PlainEntry
entry_at s j at =
    if nat_lt at s.first_entry then None else slice_get (reverse j) (at - s.first_entry)

-- what an entry says, if there is one
abbrev pub plain_entry_found : Option (Bor Entry) → Option PlainEntry
plain_entry_found None = None
plain_entry_found (Some entry) = Some (plain_entry entry.now)

-- the number of an action, if there is one
abbrev pub action_number_of : Option ActionId → Option ℕ
action_number_of None = None
action_number_of (Some a) = Some a.0
