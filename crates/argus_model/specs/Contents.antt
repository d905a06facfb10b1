-- What an object holds for an action, and for good.
use Rattle.std.specs.Prelude.{Bool, if◌then◌else◌, ℕ, ◌&&◌, ◌==◌}
use Rattle.argus_model.specs.{Event.{Aborted, Accessed, Began, Committed}, Meaning.Meaning}
use Rattle.argus_model.specs.{History.{History, Opened, HistoryOpening, ◌▹◌}, Owner.{counts_for, is_base, owner}}

module _ {V C A : Type 0} (meaning : Meaning V C A) where
  -- from this content on, what each write access to the object leaves, in order, if its action
  -- counts
  abbrev pub replay : (ℕ → Bool) → ℕ → C → History V → C
  replay counts o c (Opened n) = c
  replay counts o c (Accessed a o' v ▹ older) =
      if o' == o && (meaning.writes v && counts a) then meaning.after v
      (replay counts o c older) else replay counts o c older
  replay counts o c (Began from ▹ older) = replay counts o c older
  replay counts o c (Committed a ▹ older) = replay counts o c older
  replay counts o c (Aborted actions ▹ older) = replay counts o c older

  -- what a sees in the object: what was written for good, and by actions whose owner is an ancestor
  -- of a
  abbrev pub sees : HistoryOpening C → History V → ℕ → ℕ → C
  sees opening h a o = replay (λ b. counts_for h a (owner h b)) o (opening.contents o) h

  -- the object's base: what is in it for good
  abbrev pub base : HistoryOpening C → History V → ℕ → C
  base opening h o = replay (λ b. is_base (owner h b)) o (opening.contents o) h
