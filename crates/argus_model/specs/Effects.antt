-- What each committed topaction left for good, and the table that a list of such effects makes.
use Rattle.std.specs.Prelude.{List, [], if◌then◌else◌, map, reverse, ℕ, ◌++◌, ◌==◌, ◌∷◌}
use Rattle.argus_model.specs.{Ancestors.parent, Contents.sees, Event.{Aborted, Accessed, Began, Committed, Event}}
use Rattle.argus_model.specs.{History.{History, HistoryOpening}, Meaning.Meaning, Numbers.insert}
use Rattle.argus_model.specs.Work.{Access, all_of, committed_topactions, content_after, work}

module _ {C : Type 0} where
  -- the content that an effect gives the object, or otherwise this one
  abbrev pub content_by : List (ℕ × C) → ℕ → C → C
  content_by [] o c = c
  content_by (pair ∷ effect) o c = if pair.0 == o then pair.1 else content_by effect o c

  -- these contents, overwritten by each effect in turn
  abbrev pub table : (ℕ → C) → List (List (ℕ × C)) → ℕ → C
  table contents [] o = contents o
  table contents (effect ∷ later) o = table (λ x. content_by effect x (contents x)) later o

module _ {V C A : Type 0} (meaning : Meaning V C A) where
  -- the objects that these accesses write, in increasing number
  abbrev pub written_objects : List (Access V) → List ℕ
  written_objects [] = []
  written_objects (e ∷ older) =
      if meaning.writes e.what then insert e.object (written_objects older) else
      written_objects older

  -- what this work, done after the work before it, leaves in each object that it writes
  abbrev pub effect_of : (ℕ → C) → (done before : List (Access V)) → List (ℕ × C)
  effect_of contents done before =
      map (λ o. (o, content_after meaning contents o (done ++ before))) (written_objects done)

  -- the effect of each of these, the last first
  abbrev pub effects_of : (ℕ → C) → (ℕ → List (Access V)) → List ℕ → List (List (ℕ × C))
  effects_of contents done [] = []
  effects_of contents done (a ∷ older) =
      effect_of contents (done a) (all_of done older) ∷ effects_of contents done older

  -- one effect for each committed topaction, in the order of their commits
  abbrev pub effects : HistoryOpening C → History V → List (List (ℕ × C))
  effects opening h = reverse (effects_of opening.contents (work h) (committed_topactions h))

  -- what one more event adds to them: the commit of a topaction adds its effect, which is what the
  -- topaction sees in each object that it has written; every other event adds none
  abbrev pub added_effects : HistoryOpening C → History V → Event V → List (List (ℕ × C))
  added_effects opening h (Committed a) =
      if parent h a == 0 then map (λ o. (o, sees meaning opening h a o))
      (written_objects (work h a)) ∷ [] else []
  added_effects opening h (Began from) = []
  added_effects opening h (Aborted actions) = []
  added_effects opening h (Accessed a o v) = []
