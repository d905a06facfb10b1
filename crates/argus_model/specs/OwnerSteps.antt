-- A second form of owners and live actions, for proofs: what each event does to them.
use Rattle.std.specs.Prelude.{Bool, List, None, Option, Some, false, if◌then◌else◌, true, ℕ, ◌&&◌, ◌==◌, ◌||◌, ◌≡◌, ◌≢◌}
use Rattle.argus_model.specs.{Ancestors.{is_under, parent}, History.{History, Opened, next_action, ◌▹◌}}
use Rattle.argus_model.specs.Event.{Aborted, Accessed, Began, Committed, origin_begun_by, origin_parent}
use Rattle.argus_model.specs.{Numbers.contains, Owner.{Base, Gone, Held, Owner}}

-- the owner, after a has handed what it owns to p
abbrev pub owner_inherited : ℕ → ℕ → Option ℕ → Option ℕ
owner_inherited a p None = None
owner_inherited a p (Some x) = if x == a then Some p else Some x

-- the owner, unless it is lost
abbrev pub unless_lost : (ℕ → Bool) → Option ℕ → Option ℕ
unless_lost lost None = None
unless_lost lost (Some x) = if lost x then None else Some x

-- The owner of what the action did: the action itself at first, its owner's parent once that owner
-- commits, and nobody after an abort. The base is its own owner.
abbrev pub owner_by_steps : {V : Type 0} → History V → ℕ → Option ℕ
owner_by_steps (Opened n) a = if a == 0 then Some 0 else None
owner_by_steps (Began from ▹ older) a =
    if a == next_action older then Some a else owner_by_steps older a
owner_by_steps (Committed b ▹ older) a = owner_inherited b (parent older b) (owner_by_steps older a)
owner_by_steps (Aborted bs ▹ older) a = unless_lost (is_under older bs) (owner_by_steps older a)
owner_by_steps (Accessed b o v ▹ older) a = owner_by_steps older a

-- the owner in the words of its definition
abbrev pub as_owner : Option ℕ → Owner
as_owner None = Gone
as_owner (Some x) = if x == 0 then Base else Held x

-- the owner is a
abbrev pub is_exactly : Option ℕ → ℕ → Bool
is_exactly None a = false
is_exactly (Some x) a = x == a

-- it stands: it is its own owner, a live action or the base
abbrev pub stands : {V : Type 0} → History V → ℕ → Bool
stands h a = is_exactly (owner_by_steps h a) a

-- each of these stands, and none is the base
abbrev pub AllStand : {V : Type 0} → History V → List ℕ → Type 0
AllStand h actions = (a : ℕ) → contains actions a ≡ true → (a ≢ 0) × (stands h a ≡ true)

-- an action that began in k, of this parent or creator, stands in h
abbrev pub standing_child : {V : Type 0} → History V → ℕ → History V → Bool
standing_child h a (Opened n) = false
standing_child h a (Began from ▹ k) =
    ((origin_parent from == a || origin_begun_by from == a) && stands h (next_action k))
    || standing_child h a k
standing_child h a (Committed b ▹ k) = standing_child h a k
standing_child h a (Aborted bs ▹ k) = standing_child h a k
standing_child h a (Accessed b o v ▹ k) = standing_child h a k

-- an action that may commit or access: it stands, and none that it began does
pub record StandsAlone {V : Type 0} (h : History V) (a : ℕ) : Type 0 where
  pub not_base : a ≢ 0
  pub standing : stands h a ≡ true
  pub childless : standing_child h a h ≡ false
