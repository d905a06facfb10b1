-- The listing of a journal, and the journals that lines can spell.
use Rattle.std.specs.Prelude.{List, Option, Some, [], true, ℕ, ◌++◌, ◌<◌, ◌∷◌, ◌≡◌, ◌⊎◌}
use Rattle.argus_contents.specs.{Content.PlainContent, Shape.PlainShape, declared.limits.TheConstants.MAX_OBJECTS}
use Rattle.argus_entries.specs.Entry.{PlainEntry}
use Rattle.argus_journal.specs.{JournalView.JournalView, Opening.{KeepsNumbers, Opening, empty, fits_shape}}
use Rattle.argus_listings.specs.Listing.{entries_text, opening_text}
use Rattle.argus_reading.specs.{OpeningLanguages.IsReadableContent, Line.IsReadable}
use Rattle.argus_texts.specs.ShapeSpelling.{IsMakeable}

-- the listing of a journal
abbrev pub journal_text : JournalView → List ℕ
journal_text journal = opening_text journal.opening ++ entries_text journal.opening journal.entries

-- the journal without objects, actions and entries
abbrev pub no_journal : JournalView
no_journal = record { opening = empty; entries = [] }

-- an object that a line of an opening can spell: its shape can be made, its content's values have a
-- depth of at most 16, and it would fit its shape if there were enough objects
pub record IsReadableObject (object : PlainShape × Option PlainContent) : Type 0 where
  pub makeable : IsMakeable object.0
  pub within : IsReadableContent object.1
  pub may_fit : fits_shape (Some object.0) MAX_OBJECTS object.1 ≡ true

-- each of the objects is such an object
abbrev pub AreReadableObjects : List (PlainShape × Option PlainContent) → Type 0
AreReadableObjects [] = Unit {0}
AreReadableObjects (object ∷ objects) = IsReadableObject object × AreReadableObjects objects

-- an opening that lines can spell, whether all objects that it refers to are there or not: entries
-- went before it, it is within the limits, and each object is readable
pub record IsReadableOpening (s : Opening) : Type 0 where
  pub some : 0 < s.first_entry
  pub limits : KeepsNumbers s
  pub objects : AreReadableObjects s.objects

-- nothing went before, or lines can spell the opening
abbrev pub IsEmptyOrReadable : Opening → Type 0
IsEmptyOrReadable s = (s ≡ empty) ⊎ IsReadableOpening s

-- each of the entries has a line that can be read
abbrev pub AreReadable : List PlainEntry → Type 0
AreReadable [] = Unit {0}
AreReadable (e ∷ older) = IsReadable e × AreReadable older

-- a journal that lines can spell: it begins from nothing or with a readable opening, and each entry
-- is readable
pub record IsReadableJournal (journal : JournalView) : Type 0 where
  pub opening : IsEmptyOrReadable journal.opening
  pub entries : AreReadable journal.entries
