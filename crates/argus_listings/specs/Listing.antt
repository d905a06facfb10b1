-- What each listing of a guardian is, to the byte.
use Rattle.std.specs.{Fmt.decimal, Io.KnownBytes.Appends, List.{enumerate_from, flat_map, range_with_len}}
use Rattle.std.specs.{Prelude.{OnErr, OnOk, ◌∷◌}, declared.result.Result.Result}
use Rattle.std.specs.Prelude.{List, None, Option, Some, [], codes, if◌then◌else◌, map, reverse, take, ℕ, ◌++◌, ◌==◌}
use Rattle.argus_contents.specs.{Content.PlainContent, Shape.PlainShape}
use Rattle.argus_entries.specs.{Entry.PlainEntry, EntrySpelling.entry_line}
use Rattle.argus_journal.specs.{Folding.next_entry_number, Objects.declared, Opening.Opening, Replaying.replayed}
use Rattle.argus_journal.specs.{JournalFacts.{base_of, readers_of, versions_of, writers_of}, JournalView.JournalView}
use Rattle.argus_reading.specs.OpeningLanguages.{content_text}
use Rattle.argus_texts.specs.ShapeSpelling.{shape_spelling}
use Rattle.argus_listings.specs.declared.listing.Listing.{Listing}
use Rattle.argus_listings.specs.declared.listing.Listing.TheVariants.{Audit, Bases, Journal, Stacks}

-- a line of an object: its name, these words, a content and a line feed
abbrev pub object_line : List ℕ → List ℕ → Option PlainContent → List ℕ
object_line name words c = name ++ words ++ content_text c ++ 10 ∷ []

-- the line of an object's base, if more is listed of the object
abbrev pub base_line : List ℕ → Option PlainContent → List ℕ
base_line name c = object_line name (codes " base ") c

-- the line of a version: its holder and its content
abbrev pub version_line : List ℕ → ℕ × Option PlainContent → List ℕ
version_line name v = object_line name (codes " version a" ++ decimal v.0 ++ codes " ") v.1

-- the lines of versions, in their order
abbrev pub version_lines : List ℕ → List (ℕ × Option PlainContent) → List ℕ
version_lines name versions = flat_map (version_line name) versions

-- an action, after a space
abbrev pub reader_text : ℕ → List ℕ
reader_text a = codes " a" ++ decimal a

-- the readers, each after a space; `none` if there is none
abbrev pub readers_text : List ℕ → List ℕ
readers_text [] = codes " none"
readers_text (a ∷ actions) = flat_map reader_text (a ∷ actions)

-- the line of an object's readers
abbrev pub readers_line : List ℕ → List ℕ → List ℕ
readers_line name readers = name ++ codes " readers" ++ readers_text readers ++ 10 ∷ []

-- the object's base, as the journal's writes leave it when they are run again
abbrev pub base_again : JournalView → ℕ → Option PlainContent
base_again journal o = replayed journal.opening journal.entries None o journal.entries

-- what the action sees in the object, likewise
abbrev pub seen_again : JournalView → ℕ → ℕ → Option PlainContent
seen_again journal a o =
    replayed journal.opening journal.entries (Some (record { 0 = a })) o journal.entries

-- each write holder of the object, from ancestor to descendant, with what it sees, likewise
abbrev pub versions_again : JournalView → ℕ → List (ℕ × Option PlainContent)
versions_again journal o =
    map (λ a. (a, seen_again journal a o)) (writers_of journal.opening journal.entries o)

-- the line of an object in the listing of bases
abbrev pub bases_text : JournalView → ℕ → List ℕ → List ℕ
bases_text journal o name = object_line name (codes " ") (base_of journal.opening journal.entries o)

-- the lines of an object in the listing of stacks
abbrev pub stacks_text : JournalView → ℕ → List ℕ → List ℕ
stacks_text journal o name =
    base_line name (base_of journal.opening journal.entries o)
    ++ readers_line name (readers_of journal.opening journal.entries o)
    ++ version_lines name (versions_of journal.opening journal.entries o)

-- the lines of an object in the audit
abbrev pub audit_text : JournalView → ℕ → List ℕ → List ℕ
audit_text journal o name =
    base_line name (base_again journal o) ++ version_lines name (versions_again journal o)

-- the lines of an object in each listing; the journal's has none
abbrev pub object_text : Listing → JournalView → ℕ → List ℕ → List ℕ
object_text Bases journal o name = bases_text journal o name
object_text Stacks journal o name = stacks_text journal o name
object_text Journal journal o name = []
object_text Audit journal o name = audit_text journal o name

-- what the function says of each with its number, counted from this number
abbrev pub each_from : {A : Type 0} → (ℕ → A → List ℕ) → ℕ → List A → List ℕ
each_from text n xs = flat_map (λ p. text p.0 p.1) (enumerate_from n xs)

-- the name of an object that has no other: its number
abbrev pub numbered_name : ℕ → List ℕ
numbered_name o = codes "o" ++ decimal o

-- such names for this many objects, from object 0 on
abbrev pub numbered_names : ℕ → List (List ℕ)
numbered_names count = map numbered_name (range_with_len 0 count)

-- the names of declared objects
abbrev pub names_within : JournalView → List (List ℕ) → List (List ℕ)
names_within journal names = take (declared journal.opening journal.entries) names

-- the lines of the objects, in the order of their numbers
abbrev pub objects_text : Listing → List (List ℕ) → JournalView → List ℕ
objects_text listing names journal =
    each_from (object_text listing journal) 0 (names_within journal names)

-- the line that says how many entries and actions went before the opening
abbrev pub folded_line : ℕ → ℕ → List ℕ
folded_line entries actions =
    (codes "opening entries " ++ decimal entries)
    ++ (codes " actions " ++ decimal actions) ++ 10 ∷ []

-- the line of an object of the opening
abbrev pub opened_line : ℕ → PlainShape × Option PlainContent → List ℕ
opened_line o object =
    codes "opening o" ++ decimal o ++ codes " " ++ shape_spelling object.0
    ++ codes " " ++ content_text object.1 ++ 10 ∷ []

-- the lines of an opening; none if no entry went before it
abbrev pub opening_text : Opening → List ℕ
opening_text s =
    if s.first_entry == 0 then [] else
    (folded_line s.first_entry s.first_action ++ each_from opened_line 0 s.objects)

-- the lines of the entries since the opening, the oldest first
abbrev pub entries_text : Opening → List PlainEntry → List ℕ
entries_text s j = each_from entry_line s.first_entry (reverse j)

-- the last line of an audit: the number of the next entry
abbrev pub length_line : JournalView → List ℕ
length_line journal =
    codes "entries " ++ decimal (next_entry_number journal.opening journal.entries) ++ 10 ∷ []

-- a listing of a guardian whose objects have these names, as far as there are both
abbrev pub listing_of : Listing → List (List ℕ) → JournalView → List ℕ
listing_of Bases names journal = objects_text Bases names journal
listing_of Stacks names journal = objects_text Stacks names journal
listing_of Journal names journal =
    opening_text journal.opening ++ entries_text journal.opening journal.entries
listing_of Audit names journal = objects_text Audit names journal ++ length_line journal

-- the text was written; or, behind an error, a front of it
abbrev pub Writes : {T E : Type 0} → Result T E → Option (List ℕ) → Option (List ℕ) → List ℕ → Type 0
Writes result old new text = OnOk result (Appends old new text)
    × OnErr result ((n : ℕ) × Appends old new (take n text))
