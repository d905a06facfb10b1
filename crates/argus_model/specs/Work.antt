-- The serial order: what each action did, with the work of its committed subactions.
use Rattle.std.specs.Prelude.{Bool, List, [], if◌then◌else◌, true, ℕ, ◌++◌, ◌==◌, ◌∷◌, ◌≡◌, ◌⊎◌}
use Rattle.argus_model.specs.{Ancestors.{is_ancestor, lineage, parent}, Event.{Aborted, Accessed, Began, Committed}}
use Rattle.argus_model.specs.{History.{History, Opened, ◌▹◌}, Meaning.Meaning, Numbers.contains}

-- an access with its object, apart from the action that made it
pub record Access (V : Type 0) : Type 0 where
  pub object : ℕ
  pub what : V

-- one of the history's events is this access
abbrev pub IsOnRecord : {V : Type 0} → History V → Access V → Type 0
IsOnRecord (Opened n) e = ⊥
IsOnRecord (Accessed a o v ▹ older) e = (record { object = o; what = v } ≡ e) ⊎ IsOnRecord older e
IsOnRecord (Began from ▹ older) e = IsOnRecord older e
IsOnRecord (Committed a ▹ older) e = IsOnRecord older e
IsOnRecord (Aborted actions ▹ older) e = IsOnRecord older e

-- the accesses by the actions that pass the test, newest first
abbrev pub accesses_by : {V : Type 0} → (ℕ → Bool) → History V → List (Access V)
accesses_by test (Opened n) = []
accesses_by test (Accessed a o v ▹ older) =
    if test a then record { object = o; what = v } ∷ accesses_by test older else
    accesses_by test older
accesses_by test (Began from ▹ older) = accesses_by test older
accesses_by test (Committed a ▹ older) = accesses_by test older
accesses_by test (Aborted actions ▹ older) = accesses_by test older

-- the accesses of an action, newest first, with the whole work of each subaction at its commit
abbrev pub work : {V : Type 0} → History V → ℕ → List (Access V)
work (Opened n) a = []
work (Accessed b o v ▹ older) a =
    if b == a then record { object = o; what = v } ∷ work older a else work older a
work (Committed b ▹ older) a =
    if parent older b == a then work older b ++ work older a else work older a
work (Began from ▹ older) a = work older a
work (Aborted bs ▹ older) a = work older a

-- the committed topactions, nested ones too, the last to commit first
abbrev pub committed_topactions : {V : Type 0} → History V → List ℕ
committed_topactions (Opened n) = []
committed_topactions (Committed a ▹ older) =
    if parent older a == 0 then a ∷ committed_topactions older else committed_topactions older
committed_topactions (Began from ▹ older) = committed_topactions older
committed_topactions (Aborted actions ▹ older) = committed_topactions older
committed_topactions (Accessed a o v ▹ older) = committed_topactions older

-- of the committed topactions t, and no other, is an ancestor of a
pub record IsItsTopaction {V : Type 0} (h : History V) (a t : ℕ) : Type 0 where
  pub committed : contains (committed_topactions h) t ≡ true
  pub above : is_ancestor h t a ≡ true
  pub only : (u : ℕ) → contains (committed_topactions h) u ≡ true → is_ancestor h u a ≡ true
      → u ≡ t

-- what the function returns for each number, one after another
abbrev pub all_of : {X : Type 0} → (ℕ → List X) → List ℕ → List X
all_of f [] = []
all_of f (x ∷ xs) = f x ++ all_of f xs

-- the work of the committed topactions, the last to commit first
abbrev pub serial_order : {V : Type 0} → History V → List (Access V)
serial_order h = all_of (work h) (committed_topactions h)

-- the work of a, before it that of its parent and so on, and before all of it the work that is
-- there for good
abbrev pub serial_order_to : {V : Type 0} → History V → ℕ → List (Access V)
serial_order_to h a = all_of (work h) (lineage h a)

module _ {V C A : Type 0} (meaning : Meaning V C A) where
  -- what these accesses, newest first, leave in the object, from these contents on
  abbrev pub content_after : (ℕ → C) → ℕ → List (Access V) → C
  content_after contents o [] = contents o
  content_after contents o (e ∷ older) =
      if e.object == o then meaning.after e.what (content_after contents o older) else
      content_after contents o older

  -- what the object of an access holds just before it, given the accesses before it, newest first
  abbrev pub content_before : (ℕ → C) → Access V → List (Access V) → C
  content_before contents e earlier = content_after contents e.object earlier
