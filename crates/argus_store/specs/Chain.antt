-- When the rows of a log follow from one another, the text of its listing, and the first row that doesn't follow.
use Rattle.std.specs.Prelude.{◌≡◌, ◌≢◌, ◌⊎◌, ◌≤◌, ◌+◌, ℕ, ℤ, pos, ⊤, decimal, codes, flat_map, List, [], ◌∷◌, ◌++◌}
use Rattle.argus_store.specs.{Summing.log_sum, declared.end.End.End, End.{EndsAt, end_after}}
use Rattle.argus_store.specs.Journal.{Batch, Journal, OpeningLine, one_row}
use Rattle.argus_store.specs.declared.faulty_row.{FaultyRow.FaultyRow, Table.Table, RowFault.RowFault}
use Rattle.argus_store.specs.declared.faulty_row.Table.TheVariants.{Log, Opening, Batch as OfBatch}
use Rattle.argus_store.specs.declared.faulty_row.RowFault.TheVariants.{Number, TooLarge, Sum}

-- ---- the text

-- a row's lines, and a line feed behind the last of them
abbrev pub ended : List ℕ → List ℕ
ended lines = lines ++ codes "\n"

-- the text of a log's listing: the opening's lines, then those of the batches
abbrev pub listing_of : Journal → List ℕ
listing_of j = flat_map (λ (l : OpeningLine). ended l.text) j.opening
    ++ flat_map (λ (b : Batch). ended b.lines) j.batches

-- ---- the chain

-- the opening's lines have the numbers from this one on, one after another
abbrev pub AreInPlace : ℕ → List OpeningLine → Type 0
AreInPlace at [] = ⊤
AreInPlace at (l ∷ ls) = (l.number ≡ pos at) × AreInPlace (at + 1) ls

-- the opening's lines, with a line feed between any two
abbrev pub joined : List OpeningLine → List ℕ
joined [] = []
joined (l ∷ ls) = l.text ++ flat_map (λ (m : OpeningLine). codes "\n" ++ m.text) ls

-- the opening stands before this entry: its first line says so. Without an opening that is entry 0.
abbrev pub StandsBefore : ℕ → List OpeningLine → Type 0
StandsBefore entry [] = entry ≡ 0
StandsBefore entry (l ∷ ls) =
    (rest : List ℕ) × (l.text ≡ codes "opening entries " ++ (decimal entry ++ (codes " " ++ rest)))

-- the opening stands before the entry that comes next, whose number a database can hold
abbrev pub Opens : End → List ℕ → Type 0
Opens end opening = (end.next ≤ 9223372036854775807) × StandsBefore end.next (one_row opening)

-- where the chain begins, in the log of this name: behind an opening that stands before this entry
abbrev pub begins_after : List ℕ → List OpeningLine → ℕ → End
begins_after name ls entry = record { next = entry; sum = log_sum name entry 0 (joined ls) }

-- the batch comes next in the log of this name, and has the sum that it should have
abbrev pub IsNext : List ℕ → End → Batch → Type 0
IsNext name at b = (b.first ≡ pos at.next) × (b.sum ≡ pos (end_after name at b.lines).sum)

-- each batch follows from the one before it, from this end to that one
abbrev pub Follow : List ℕ → End → List Batch → End → Type 0
Follow name at [] end = at ≡ end
Follow name at (b ∷ bs) end = IsNext name at b × Follow name (end_after name at b.lines) bs end

-- all rows of the log follow from one another, and the log's row says where the last batch ends
pub record IsChained (j : Journal) : Type 0 where
  pub entry : ℕ
  pub end : End
  pub in_place : AreInPlace 0 j.opening
  pub begins : StandsBefore entry j.opening
  pub follow : Follow j.name (begins_after j.name j.opening entry) j.batches end
  pub ends : EndsAt j j.name end

-- ---- the first row that doesn't follow

abbrev pub faulty : Table → ℤ → RowFault → FaultyRow
faulty table row fault = record { table = table; row = row; fault = fault }

-- of the opening's lines, which should have the numbers from this one on, this is the first with another
abbrev pub IsOutOfPlace : ℕ → List OpeningLine → FaultyRow → Type 0
IsOutOfPlace at [] fault = ⊥
IsOutOfPlace at (l ∷ ls) fault =
    ((l.number ≢ pos at) × (fault ≡ faulty Opening l.number Number))
    ⊎ ((l.number ≡ pos at) × IsOutOfPlace (at + 1) ls fault)

-- this is wrong with a batch: another one comes next, its end is too large for a database, or its sum is another
abbrev pub IsWrong : List ℕ → End → Batch → FaultyRow → Type 0
IsWrong name at b fault =
    ((b.first ≢ pos at.next) × (fault ≡ faulty OfBatch b.first Number))
    ⊎ ((b.first ≡ pos at.next) × (((9223372036854775808 ≤ (end_after name at b.lines).next)
    × (fault ≡ faulty OfBatch b.first TooLarge))
    ⊎ ((b.sum ≢ pos (end_after name at b.lines).sum) × (fault ≡ faulty OfBatch b.first Sum))))

-- of the batches behind this end, this is the first with which something is wrong
abbrev pub IsFirstWrong : List ℕ → End → List Batch → FaultyRow → Type 0
IsFirstWrong name at [] fault = ⊥
IsFirstWrong name at (b ∷ bs) fault = IsWrong name at b fault
    ⊎ (IsNext name at b × IsFirstWrong name (end_after name at b.lines) bs fault)

-- the log's row says that it ends there, and the last batch ends here: another entry comes next, or the sum is another
abbrev pub IsOtherEnd : End → End → FaultyRow → Type 0
IsOtherEnd said end fault =
    ((said.next ≢ end.next) × (fault ≡ faulty Log (pos 0) Number))
    ⊎ ((said.next ≡ end.next) × (said.sum ≢ end.sum) × (fault ≡ faulty Log (pos 0) Sum))

-- with which entry the batches begin, or the log ends if there are none; and the row that says so
abbrev pub first_entry : Journal → List Batch → ℤ
first_entry j [] = j.next
first_entry j (b ∷ bs) = b.first

abbrev pub first_row : List Batch → FaultyRow
first_row [] = faulty Log (pos 0) Number
first_row (b ∷ bs) = faulty OfBatch b.first Number

-- the opening's lines are in place, and the opening doesn't stand before the entry that follows it
pub record BeginsElsewhere (j : Journal) (fault : FaultyRow) : Type 0 where
  pub in_place : AreInPlace 0 j.opening
  pub other : (entry : ℕ) → first_entry j j.batches ≡ pos entry → ¬ StandsBefore entry j.opening
  pub is : fault ≡ first_row j.batches

-- the opening is as it should be, and something is wrong with a batch or with the log's end
pub record BreaksOff (j : Journal) (fault : FaultyRow) : Type 0 where
  pub entry : ℕ
  pub in_place : AreInPlace 0 j.opening
  pub begins : StandsBefore entry j.opening
  pub wrong : IsFirstWrong j.name (begins_after j.name j.opening entry) j.batches fault
      ⊎ ((said : End) × (end : End) × EndsAt j j.name said
      × Follow j.name (begins_after j.name j.opening entry) j.batches end
      × IsOtherEnd said end fault)

-- the first row that doesn't follow: a line of the opening, the row that comes behind it, or one that comes later
abbrev pub IsFirstFaulty : Journal → FaultyRow → Type 0
IsFirstFaulty j fault = IsOutOfPlace 0 j.opening fault
    ⊎ (BeginsElsewhere j fault ⊎ BreaksOff j fault)
