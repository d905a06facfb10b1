-- The longest prefix of an opening that is sound.
use Rattle.std.specs.Prelude.{if◌then◌else◌, length, take, ℕ, suc, zero}
use Rattle.argus_journal.specs.{JournalView.JournalView, Opening.{Opening, is_sound, opening_at}}

-- the opening with its first objects only
abbrev pub opening_front : Opening → ℕ → Opening
opening_front s n = opening_at (take n s.objects) s.first_action s.first_entry

-- the greatest number, up to this one, of first objects with which the opening is sound
abbrev pub sound_count : Opening → ℕ → ℕ
sound_count s zero = zero
sound_count s (suc n) = if is_sound (opening_front s (suc n)) then suc n else sound_count s n

-- the opening with as many of its first objects as make a sound one
abbrev pub sound_opening : Opening → Opening
sound_opening s = opening_front s (sound_count s (length s.objects))

-- the journal with as many objects of its opening as make a sound one
abbrev pub sound_front : JournalView → JournalView
sound_front journal = record { opening = sound_opening journal.opening; entries = journal.entries }
