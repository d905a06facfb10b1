-- A transaction: what its statements have done, one after another, what its end leaves, and a crash.
use Rattle.std.proofs.Common.{◌≡◌, ◌≢◌, inl, inr, ℕ, Bool, true, false, List, [], Option, Some, None, Result, Ok, Err}
use Rattle.std.proofs.Common.{IfOk, IsErr, IsSome, IsTrue, MatchBool, refl, sym, subst, ◌∙◌}
use Rattle.std.proofs.lemmas.Result.{IfOk-weaker}
use Rattle.sqlite.specs.{Order.Row, Tree.Trees, Store.Ghosts, Held.{Held, state}, declared.error.Error.Error}
use Rattle.sqlite.specs.State.{State, HasCleanDisk, Survives, Shows, KeepsCommit, IsRolledBack}
use Rattle.sqlite.specs.{State.{Executes, ExecutesInside}, Effect.Database, Steps.FailsToCommit}
use Rattle.sqlite.proofs.StateLemmas.{survives_then}
use Rattle.argus_store.specs.declared.{end.End.End, change.Change.Change}
use Rattle.argus_store.specs.Journal.{Journal, HoldsLog, AreBelow}
use Rattle.argus_store.specs.{End.EndsAt, Store.{HasLog, Changes, Leaves, LeavesEither}}
use Rattle.argus_store.specs.Changing.{Ran, Moves, Puts, Runs, Sees, Suits, changed, end_with}
use Rattle.argus_store.proofs.Logs.{has_log, has_lines, settled, unchanged, was_clean}

-- ---- statements, one after another

shown : (old new : State) (now : Database) (mode : Bool) → Shows old new now old.committed mode → KeepsCommit old new
shown old new now mode h = record { was_open = λ _. h.was_open; committed = λ _. h.committed_is }

keeps : (sql : List ℕ) (row : Row) (old new : State) (r : Result ℕ Error) → ExecutesInside 0 sql row old new r
    → KeepsCommit old new
keeps sql row old new (Ok count) h = shown old new _ _ h.1
keeps sql row old new (Err e) (inr h) = shown old new _ _ h.2.0
keeps sql row old new (Err e) (inl h) = elim h.1 [
  | inl same ↦ shown old new _ _ same.0
  | inr back ↦ record { was_open = back.was_open; committed = λ now. (back.undone now).1 }
]

goes : (sql : List ℕ) (row : Row) (old new : State) (r : Result ℕ Error) (P : ℕ → Type 0)
    → ((count : ℕ) → Executes sql row old new (Ok count) → P count) → ExecutesInside 0 sql row old new r
    → IfOk r (λ count. IsTrue new.in_transaction × P count)
goes sql row old new (Ok count) P so h = (h.1.mode, so count h.0)
goes sql row old new (Err e) P so h = tt

pub ran_one : (sql : List ℕ) (row : Row) (old new : State) (r : Result ℕ Error) (P : ℕ → Type 0)
    → (HasCleanDisk new → IsTrue old.in_transaction → ExecutesInside 0 sql row old new r)
    → Survives old new (λ _. ⊥) → ((count : ℕ) → Executes sql row old new (Ok count) → P count) → Ran old new r P
ran_one sql row old new r P runs survives so = record {
  survives = survives;
  kept = λ clean inside. keeps sql row old new r (runs clean inside);
  went = λ clean inside. goes sql row old new r P so (runs clean inside);
}

pub ran_then : {T U V : Type 0} (a b c : State) (x : T) (r : Result U Error) (q : Result V Error) (P : T → Type 0)
    (Q : U → Type 0) (R : V → Type 0) → Ran a b (Ok x) P → Ran b c r Q
    → (P x → IfOk r (λ u. IsTrue c.in_transaction × Q u) → IfOk q (λ v. IsTrue c.in_transaction × R v)) → Ran a c q R
ran_then a b c x r q P Q R one two so = record {
  survives = survives_then a b c _ _ (λ _. ⊥) (λ _ db none. none) (λ _ db none. none) one.survives two.survives;
  kept = λ clean inside.
      let early = was_clean two.survives clean in
      let first = one.kept early inside in
      let second = two.kept clean (one.went early inside).0 in
      record {
        was_open = λ now. first.was_open (second.was_open now);
        committed = λ now. second.committed now ∙ first.committed (second.was_open now);
      };
  went = λ clean inside.
      let on = one.went (was_clean two.survives clean) inside in
      so on.1 (two.went clean on.0);
}

pub ran_as : {T V : Type 0} (a b : State) (r : Result T Error) (q : Result V Error) (P : T → Type 0) (R : V → Type 0)
    → Ran a b r P → (IfOk r (λ t. IsTrue b.in_transaction × P t) → IfOk q (λ v. IsTrue b.in_transaction × R v))
    → Ran a b q R
ran_as a b r q P R h so = record {
  survives = h.survives;
  kept = h.kept;
  went = λ clean inside. so (h.went clean inside);
}

pub if_failed : {T : Type 0} (q : Result T Error) (P : T → Type 0) → IsErr q → IfOk q P
if_failed (Ok x) P e = absurd (let none = e in cc)
if_failed (Err e) P is = tt

-- a statement without parameters that failed, and one behind another
pub failed_first : {T : Type 0} (sql : List ℕ) (a b : State) (r : Result ℕ Error) (q : Result T Error) (P : T → Type 0)
    → (HasCleanDisk b → IsTrue a.in_transaction → ExecutesInside 0 sql [] a b r) → Survives a b (λ _. ⊥) → IsErr q
    → Ran a b q P
failed_first sql a b r q P runs survives failed = ran_as a b r q (λ _. Unit {0}) P
    (ran_one sql [] a b r (λ _. Unit {0}) runs survives (λ _ _. tt)) (λ _. if_failed q _ failed)

pub failed_then : {T : Type 0} (sql : List ℕ) (a b c : State) (count : ℕ) (r : Result ℕ Error) (q : Result T Error)
    (P : ℕ → Type 0) (R : T → Type 0) → Ran a b (Ok count) P
    → (HasCleanDisk c → IsTrue b.in_transaction → ExecutesInside 0 sql [] b c r) → Survives b c (λ _. ⊥) → IsErr q
    → Ran a c q R
failed_then sql a b c count r q P R one runs survives failed = ran_then a b c count r q P (λ _. Unit {0}) R one
    (ran_one sql [] b c r (λ _. Unit {0}) runs survives (λ _ _. tt)) (λ _ _. if_failed q _ failed)

-- the log's end was moved, and the lines put in
module _ (change : Change) (a b : State) (name : List ℕ) (e : End) (lines : List ℕ) (count : ℕ)
    (moves : Ran a b (Ok count) (Moves a b name e (end_with change name e lines))) where
  pub elsewhere : count ≢ 1 → Ran a b (Ok false) (Runs a b change name e lines)
  elsewhere other = ran_as a b (Ok count) (Ok false) _ _ moves
      (λ on. (on.0, λ j sees at. other ((on.1 j (sees.0, sees.1.rows)).1 at)))

  pub both : (c : State) → count ≡ 1 → (put : ℕ)
      → Ran b c (Ok put) (λ _. Puts change b c e lines (end_with change name e lines))
      → Ran a c (Ok true) (Runs a c change name e lines)
  both c one put puts = ran_then a b c count (Ok put) (Ok true) _ _ _ moves puts (λ moved on. (
    on.0,
    λ j sees.
        let it = (moved j (sees.0, sees.1.rows)).0 one in
        let has = on.1 j it.1 (subst (λ n. AreBelow n j.batches) it.0.next_is sees.1.below) in
        (it.0, (has.0, has_lines change a.now.trees c.now.trees j name e lines it.0 sees.1 has.1)),
  ))

-- ---- its end

-- a failed commit rolls back
rolled_back : (old new : State) (e : Error) → FailsToCommit old new e → IsTrue old.in_transaction → IsRolledBack old new
rolled_back old new e (inl h) inside = h.3
rolled_back old new e (inr h) inside = absurd (let none = sym h.1 ∙ inside in cc)

module _ {S : Type 0} (g : Ghosts S)
    (law : (s : S) (db : Trees) → IsTrue (g.view s).is_open → g.recovers s db → db ≡ (g.view s).committed)
    (change : Change) (j : Journal) (name : List ℕ) (e : End) (lines : List ℕ) (old : Held S)
    (was : HasLog (state g old) j) where
  abbrev later : Journal
  later = changed change j e lines (end_with change name e lines)

  abbrev Takes : Type 0
  Takes = EndsAt j name e × Suits change name e lines

  abbrev Outcome : Held S → Result (Option End) Error → Type 0
  Outcome new q = Changes (state g new) q Takes j later

  -- the log was not changed
  as_before : (new : Held S) (q : Result (Option End) Error) → IfOk q (λ made. made ≡ None) → (q ≡ Ok None → ¬ Takes)
      → (IsTrue (state g new).is_open → HasLog (state g new) j) → LeavesEither (state g new) j later → Outcome new q
  as_before new q none not has crash = record {
    made = IfOk-weaker q _ _ (λ made is some. absurd (let other = subst IsSome is some in cc)) none;
    durable = IfOk-weaker q _ _ (λ made is some. absurd (let other = subst IsSome is some in cc)) none;
    kept = λ is_open _. has is_open;
    refused = not;
    crash = crash;
  }

  settles : Leaves (state g old) j
  settles = settled (state g old) j (λ db left. law old.store db was.is_open left) was

  -- nothing was done
  pub stays : ¬ Suits change name e lines → Outcome old (Ok None)
  stays not = as_before old (Ok None) refl (λ _ takes. not takes.1) (λ _. was) (λ db left. inl (settles db left))

  module _ (start mid new : Held S) (begun : start ≡ record old { in_transaction = true }) (r : Result Bool Error)
      (ran : Ran (state g start) (state g mid) r (Runs (state g start) (state g mid) change name e lines)) where
    -- what the statements did
    abbrev Did : Bool → Type 0
    Did done = IsTrue (state g mid).in_transaction × MatchBool done (EndsAt j name e × Sees (state g mid) later)
        (¬ EndsAt j name e)

    did : (done : Bool) → r ≡ Ok done → HasCleanDisk (state g mid) → Did done
    did done is clean = subst (λ r. IfOk r Did) is (IfOk-weaker r _ _ (λ done on. (
      on.0,
      on.1 j
          (rw begun (was.schema, was.holds)),
    )) (ran.went clean (rw begun)))

    back : HasCleanDisk (state g mid) → IsRolledBack (state g mid) (state g new) → IsTrue (state g new).is_open
        → HasLog (state g new) j
    back clean rolled is_open =
        let kept = ran.kept clean (rw begun) in
        let to = rolled.undone is_open in
        let first : (state g start).committed ≡ (state g old).committed = rw begun in
        let same = kept.committed (rolled.was_open is_open) ∙ first in
        unchanged (state g old) (state g new) j was is_open rolled.autocommit (to.0 ∙ same ∙ was.committed)
        (to.1 ∙ same)

    module _ {Commits : Trees → Type 0} (ends : Survives (state g mid) (state g new) Commits)
        (holds : HasCleanDisk (state g mid) → (db : Trees) → Commits db → HoldsLog db later) where
      either : HasCleanDisk (state g new) → LeavesEither (state g new) j later
      either clean db left =
          let first = rw begun at ran.survives in
          elim (ends.crash clean db left) [
            | inl earlier ↦ elim (first.crash (was_clean ends clean) db earlier) [
              | inl before ↦ inl (settles db before)
              | inr none ↦ absurd none
            ]
            | inr made ↦ inr (holds (was_clean ends clean) db made)
          ]

      fell : (q : Result (Option End) Error) → IsErr q → IsRolledBack (state g mid) (state g new)
          → HasCleanDisk (state g new) → Outcome new q
      fell q is rolled clean = as_before new q (if_failed q _ is)
          (λ none. absurd (let some = subst IsErr none is in cc)) (back (was_clean ends clean) rolled) (either clean)

    none : HasCleanDisk (state g mid) → (db : Trees) → ⊥ → HoldsLog db later
    none clean db never = absurd never

    pub fails : (q : Result (Option End) Error) → IsErr q → Survives (state g mid) (state g new) (λ _. ⊥)
        → (HasCleanDisk (state g new) → IsRolledBack (state g mid) (state g new)) → HasCleanDisk (state g new)
        → Outcome new q
    fails q is ends undone clean = fell ends none q is (undone clean) clean

    -- the log has another name or another end
    pub refuses : r ≡ Ok false → Survives (state g mid) (state g new) (λ _. ⊥)
        → (HasCleanDisk (state g new) → IsRolledBack (state g mid) (state g new)) → HasCleanDisk (state g new)
        → Outcome new (Ok None)
    refuses is ends undone clean =
        let early = was_clean ends clean in
        as_before new (Ok None) refl (λ _ takes. (did false is early).1 takes.0) (back early (undone clean))
        (either ends none clean)

    -- ---- a commit is tried

    abbrev Tries : Type 0
    Tries = Survives (state g mid) (state g new) (λ db. db ≡ (state g mid).now.trees)

    makes : r ≡ Ok true → HasCleanDisk (state g mid) → (db : Trees) → db ≡ (state g mid).now.trees → HoldsLog db later
    makes is clean db at = subst (λ t. HoldsLog t later) (sym at) (did true is clean).1.1.1

    pub fails_to_commit : r ≡ Ok true → (error : Error) (q : Result (Option End) Error) → IsErr q → Tries
        → (HasCleanDisk (state g new) → FailsToCommit (state g mid) (state g new) error)
        → HasCleanDisk (state g new) → Outcome new q
    fails_to_commit is error q err ends failed clean = fell ends (makes is) q err
        (rolled_back _ _ error (failed clean) (did true is (was_clean ends clean)).0) clean

    pub commits : r ≡ Ok true → (after : End) → Suits change name e lines → Tries → (HasCleanDisk (state g new)
        → Shows (state g mid) (state g new) (state g mid).now (state g mid).now false) → HasCleanDisk (state g new)
        → Outcome new (Ok (Some after))
    commits is after suits ends shows clean =
        let on = (did true is (was_clean ends clean)).1 in
        let end = shows clean in
        let has = has_log (state g new) later (state g mid).now on.1.0 on.1.1 end.is_open end.mode end.now_is
        end.committed_is in
        record {
          made = λ _. ((on.0, suits), has);
          durable = λ _. settled (state g new) later (λ db left. law new.store db has.is_open left) has;
          kept = λ _ other. elim other [ inl e ↦ absurd (let some = e in cc) | inr e ↦ absurd (let some = e in cc) ];
          refused = λ other. absurd (let some = other in cc);
          crash = either ends (makes is) clean;
        }
