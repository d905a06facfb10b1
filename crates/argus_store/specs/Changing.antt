-- What the transaction of an append or a fold does to a log.
use Rattle.std.specs.Prelude.{◌≡◌, ◌≤◌, ℕ, pos, Bool, List, IfOk, IsTrue, MatchBool}
use Rattle.std.specs.declared.result.Result.{Result}
use Rattle.sqlite.specs.{declared.error.Error.Error, State.{State, HasCleanDisk, KeepsCommit, Survives}}
use Rattle.argus_store.specs.declared.{change.Change.Change, end.End.End}
use Rattle.argus_store.specs.declared.change.Change.TheVariants.{Append, Fold}
use Rattle.argus_store.specs.{Tables.log_schema, End.{EndsAt, end_after, end_folded}, Chain.Opens}
use Rattle.argus_store.specs.Journal.{Journal, HoldsRows, HoldsLog, AreBelow, a_batch, ending_at}
use Rattle.argus_store.specs.Journal.{with_batch, with_opening}

-- where the log of this name that ends here ends with the lines
abbrev pub end_with : Change → List ℕ → End → List ℕ → End
end_with Append = end_after
end_with Fold = end_folded

-- a database can hold the number of the entry that comes next then, and an opening stands before that
abbrev pub Suits : Change → List ℕ → End → List ℕ → Type 0
Suits Append name end lines = (end_after name end lines).next ≤ 9223372036854775807
Suits Fold name end lines = Opens end lines

-- the log that ended here with the lines, and ends there
abbrev pub changed : Change → Journal → End → List ℕ → End → Journal
changed Append j end lines after =
    with_batch j (a_batch (pos end.next) lines (pos after.sum)) (pos after.next)
changed Fold j end lines after = with_opening (ending_at j (pos after.next) (pos after.sum)) lines

-- ---- in the transaction

-- the log has these rows; and it is this log
abbrev pub SeesRows : State → Journal → Type 0
SeesRows s j = (s.now.schema ≡ log_schema) × HoldsRows s.now.trees j

abbrev pub Sees : State → Journal → Type 0
Sees s j = (s.now.schema ≡ log_schema) × HoldsLog s.now.trees j

-- Statements were run: nothing was committed, and if none failed, the transaction goes on and this is so.
pub record Ran {T : Type 0} (old new : State) (result : Result T Error) (P : T → Type 0) : Type 0 where
  pub survives : Survives old new (λ _. ⊥)
  pub kept : HasCleanDisk new → IsTrue old.in_transaction → KeepsCommit old new
  pub went : HasCleanDisk new → IsTrue old.in_transaction → IfOk result (λ x. IsTrue new.in_transaction × P x)

-- one row was changed, and the log's end moved; or the log has another name or another end
abbrev pub Moves : State → State → List ℕ → End → End → ℕ → Type 0
Moves old new name end after count = (j : Journal) → SeesRows old j
    → (count ≡ 1 → EndsAt j name end × SeesRows new (ending_at j (pos after.next) (pos after.sum)))
    × (EndsAt j name end → count ≡ 1)

-- the lines were put in, once the end was moved
abbrev pub Puts : Change → State → State → End → List ℕ → End → Type 0
Puts change old new end lines after = (j : Journal)
    → SeesRows old (ending_at j (pos after.next) (pos after.sum)) → AreBelow (pos end.next) j.batches
    → SeesRows new (changed change j end lines after)

-- both; or the log has another name or another end
abbrev pub Runs : State → State → Change → List ℕ → End → List ℕ → Bool → Type 0
Runs old new change name end lines done = (j : Journal) → Sees old j → MatchBool done (EndsAt j name end
    × Sees new (changed change j end lines (end_with change name end lines))) (¬ EndsAt j name end)
