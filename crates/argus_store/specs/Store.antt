-- What a store shows, and what a crash leaves of it.
use Rattle.std.specs.Prelude.{◌≡◌, ◌⊎◌, IfOk, IsErr, IsSome, IsTrue, None, Ok, OnErr, OnOk, Option, false}
use Rattle.std.specs.declared.result.Result.{Result}
use Rattle.sqlite_disk.specs.declared.Disk.{Ghosts}
use Rattle.sqlite.specs.{Recovery.Image, Tree.Trees, State.{State, HasCleanDisk}, Held.Held, declared.FileStore.FileStore}
use Rattle.sqlite.specs.{declared.error.Error.Error, Files.{file_state, HoldsDatabase}}
use Rattle.sqlite.specs.FileStore as store
use Rattle.sqlite_catalog.specs.Listing.{IsSound}
use Rattle.argus_store.specs.{Tables.log_schema, Journal.{Journal, HoldsLog}, declared.end.End.End}

-- The store is open, has no transaction under way, and its database is this log, all of it committed.
pub record HasLog (s : State) (j : Journal) : Type 0 where
  pub is_open : IsTrue s.is_open
  pub autocommit : s.in_transaction ≡ false
  pub schema : s.now.schema ≡ log_schema
  pub holds : HoldsLog s.now.trees j
  pub committed : s.committed ≡ s.now

-- the log is as it was; and at an error it is, if the database is still open
abbrev pub KeptAtOk : {T E : Type 0} → Result T E → State → State → Type 0
KeptAtOk result old new = (j : Journal) → HasLog old j → HasCleanDisk new → OnOk result (HasLog new j)

abbrev pub KeptAtError : {T E : Type 0} → Result T E → State → State → Type 0
KeptAtError result old new = (j : Journal) → HasLog old j → HasCleanDisk new → IsTrue new.is_open
    → OnErr result (HasLog new j)

-- a crash leaves this log
abbrev pub Leaves : State → Journal → Type 0
Leaves s j = (db : Trees) → s.may_leave db → HoldsLog db j

-- a crash leaves this log or that one, and nothing in between
abbrev pub LeavesEither : State → Journal → Journal → Type 0
LeavesEither s j k = (db : Trees) → s.may_leave db → HoldsLog db j ⊎ HoldsLog db k

-- What a call that makes this log of that one has done, if the log takes the lines. `Some`: it is made, and each crash
-- from now on leaves it. `None`: the log doesn't take them. Otherwise it is as before, if it is still open. A crash
-- leaves either.
pub record Changes (s : State) (result : Result (Option End) Error) (Takes : Type 0)
    (j k : Journal) : Type 0 where
  pub made : IfOk result (λ made. IsSome made → Takes × HasLog s k)
  pub durable : IfOk result (λ made. IsSome made → Leaves s k)
  pub kept : IsTrue s.is_open → (result ≡ Ok None) ⊎ IsErr result → HasLog s j
  pub refused : result ≡ Ok None → ¬ Takes
  pub crash : LeavesEither s j k

-- the two files hold a database which is this log
pub record FilesHold (image : Image) (j : Journal) : Type 0 where
  pub db : Trees
  pub held : ∥ HoldsDatabase image db ∥₁
  pub sound : IsSound log_schema db
  pub holds : HoldsLog db j

-- whatever a crash leaves of the files at this moment holds the log of the store
abbrev pub Keeps : {D : Type 0} {g : Ghosts D} → Held (FileStore D g) → Type 0
Keeps c = (j : Journal) (left : Image) → HasLog (file_state c) j
    → (store.state c.store).may_leave left
    → FilesHold left j
