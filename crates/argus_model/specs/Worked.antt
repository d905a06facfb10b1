-- Histories worked out: objects that hold a number, and what can be done with one.
use Rattle.std.proofs.{Common.{refl, sym}, lemmas.Bool.false≢true}
use Rattle.std.specs.Prelude.{Bool, [], false, if◌then◌else◌, true, ℕ, ◌==◌, ◌∷◌, ◌≡◌}
use Rattle.argus_model.specs.{Event.{Aborted, Accessed, Began, Committed, Nested, Sub, Top}, Meaning.Meaning}
use Rattle.argus_model.specs.{History.{History, Opened, HistoryOpening, followed_by, ◌▹◌}, Status.live_siblings}
use Rattle.argus_model.specs.Work.{Access}

-- an access, with the answer that was given
pub data NumberOperation : Type 0 where
  -- looks at the number; that it is 0 is an answer, too
  Look : (seen : ℕ) → NumberOperation
  -- puts a number in its place, and returns the one that it replaced
  Put : (number replaced : ℕ) → NumberOperation

-- whether it puts a number
abbrev pub puts : NumberOperation → Bool
puts (Look seen) = false
puts (Put number replaced) = true

-- the number that it leaves
abbrev pub number_after : NumberOperation → ℕ → ℕ
number_after (Look seen) c = c
number_after (Put number replaced) c = number

-- the number that it returned
abbrev pub answer_given : NumberOperation → ℕ
answer_given (Look seen) = seen
answer_given (Put number replaced) = replaced

-- an access that puts no number leaves the one that it finds
abbrev pub looks_keep : (v : NumberOperation) → puts v ≡ false → (c : ℕ) → number_after v c ≡ c
looks_keep (Look seen) n c = refl
looks_keep (Put number replaced) n c = absurd (false≢true (sym n))

-- both return what they find
abbrev pub numbers : Meaning NumberOperation ℕ ℕ
numbers = record {
  writes = puts;
  after = number_after;
  answer = λ v c. c;
  recorded = answer_given;
  reads_keep = looks_keep;
}

-- a look at an object, and what was seen
abbrev pub looked : ℕ → ℕ → Access NumberOperation
looked o seen = record { object = o; what = Look seen }

-- a number put into an object, and the one that it replaced
abbrev pub put : ℕ → ℕ → ℕ → Access NumberOperation
put o number replaced = record { object = o; what = Put number replaced }

-- each object holds 0, and no action is folded
abbrev pub zeros : HistoryOpening ℕ
zeros = record { contents = λ o. 0; first_action = 0; first_entry = 0 }

-- object 0 holds 4 and the others 0; actions 1 and 2 are folded, with nine entries
abbrev pub opened_late : HistoryOpening ℕ
opened_late = record { contents = λ o. if o == 0 then 4 else 0; first_action = 2; first_entry = 9 }

-- two subactions of one topaction, at one object: the second waits for the commit of the first
abbrev pub pair_begins : History NumberOperation
pair_begins =
    followed_by (Opened 0) (Began Top ∷ Began (Sub 1) ∷ Began (Sub 1) ∷ Accessed 2 0 (Put 1 0) ∷ [])

-- the first has committed, and the second goes to work
abbrev pub pair_goes_on : History NumberOperation
pair_goes_on =
    followed_by pair_begins (Committed 2 ∷ Accessed 3 0 (Look 1) ∷ Accessed 3 0 (Put 5 1)
    ∷ Accessed 3 1 (Look 0) ∷ [])

-- the second commits, and then the topaction
abbrev pub pair_ends : History NumberOperation
pair_ends = followed_by pair_goes_on (Committed 3 ∷ Committed 1 ∷ [])

-- a topaction that has begun two nested topactions, one of them through a subaction, is aborted; a
-- subaction of that subaction has committed
abbrev pub creator_works : History NumberOperation
creator_works = followed_by (Opened 0) (Began Top ∷ Began (Nested 1) ∷ Accessed 2 0 (Put 7 0) ∷ [])

-- the first nested topaction commits, and after more work its creator is aborted
abbrev pub creator_aborts : History NumberOperation
creator_aborts =
    followed_by creator_works
    (Committed 2 ∷ Began (Sub 1) ∷ Accessed 3 1 (Put 1 0) ∷ Began (Nested 3) ∷ Began (Sub 3)
    ∷ Committed 5 ∷ Aborted (1 ∷ []) ∷ [])

-- the second nested topaction goes on, and commits
abbrev pub creator_outlived : History NumberOperation
creator_outlived =
    followed_by creator_aborts (Accessed 4 1 (Look 0) ∷ Accessed 4 0 (Look 7) ∷ Committed 4 ∷ [])

-- an action aborts all its live siblings: a committed one and those begun under them as topactions
-- go on
abbrev pub siblings_work : History NumberOperation
siblings_work =
    followed_by (Opened 2)
    (Began Top ∷ Began (Sub 3) ∷ Began (Sub 3) ∷ Began (Nested 3) ∷ Began (Sub 5) ∷ Began (Nested 5)
    ∷ Accessed 4 0 (Put 1 4) ∷ Accessed 7 1 (Look 0) ∷ Committed 4 ∷ Began (Sub 3) ∷ [])

-- the live siblings are aborted in one step
abbrev pub siblings_aborted : History NumberOperation
siblings_aborted = Aborted (live_siblings siblings_work 9) ▹ siblings_work

-- the rest goes on, and the action and its parent commit
abbrev pub siblings_end : History NumberOperation
siblings_end =
    followed_by siblings_aborted (Accessed 8 1 (Put 3 0) ∷ Committed 9 ∷ Committed 3 ∷ [])

-- two topactions take turns, and the first to begin is the last to commit
abbrev pub turns_taken : History NumberOperation
turns_taken =
    followed_by (Opened 2)
    (Began Top ∷ Accessed 3 0 (Look 4) ∷ Began Top ∷ Accessed 4 1 (Put 2 0) ∷ Accessed 3 0 (Put 6 4)
    ∷ [])

-- the second commits, and then the first
abbrev pub turns_end : History NumberOperation
turns_end = followed_by turns_taken (Committed 4 ∷ Accessed 3 1 (Look 2) ∷ Accessed 3 1 (Put 8 2)
    ∷ Committed 3 ∷ [])
