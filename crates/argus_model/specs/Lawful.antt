-- Which histories the rules of nested transactions allow.
use Rattle.std.specs.{List.list_all, Prelude.{Bool, false, if◌then◌else◌, true, ℕ, ◌==◌, ◌||◌, ◌≡◌}}
use Rattle.argus_model.specs.{Contents.sees, Event.{Aborted, Accessed, Began, Committed, Event, origin_begun_by}}
use Rattle.argus_model.specs.{History.{History, Opened, HistoryOpening, ◌▹◌}, Holders.{may_read, may_write}}
use Rattle.argus_model.specs.{Meaning.{Fits, Meaning}, Status.{has_live_child, is_live}}

module _ {V C A : Type 0} (meaning : Meaning V C A) where
  -- the lock that the access needs is free for a
  abbrev pub may_access : History V → ℕ → ℕ → V → Bool
  may_access h a o v = if meaning.writes v then may_write meaning h a o else may_read meaning h a o

  -- an access may come next: its action is live and has no live child, its lock is free, and its
  -- answer follows from what the action sees
  pub record AllowedAccess (opening : HistoryOpening C) (h : History V) (a o : ℕ)
      (v : V) : Type 0 where
    pub live : is_live h a ≡ true
    pub childless : has_live_child h a ≡ false
    pub lock : may_access h a o v ≡ true
    pub answer : Fits meaning v (sees meaning opening h a o)

  -- The event may come next. An action is begun by a live one; one that commits or is aborted is
  -- live; one that commits has no live child.
  abbrev pub Allowed : HistoryOpening C → History V → Event V → Type 0
  Allowed opening h (Began from) = (origin_begun_by from == 0 || is_live h (origin_begun_by from))
      ≡ true
  Allowed opening h (Committed a) = (is_live h a ≡ true) × (has_live_child h a ≡ false)
  Allowed opening h (Aborted actions) = list_all (is_live h) actions ≡ true
  Allowed opening h (Accessed a o v) = AllowedAccess opening h a o v

  -- the history goes on from this opening, and each of its events was allowed
  abbrev pub Lawful : HistoryOpening C → History V → Type 0
  Lawful opening (Opened n) = n ≡ opening.first_action
  Lawful opening (e ▹ older) = Allowed opening older e × Lawful opening older
