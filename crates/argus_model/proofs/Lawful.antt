-- A lawful history is lawful by the events' own forms.
use Rattle.std.proofs.{Common.{List, false, subst, sym, true, ℕ, ◌∙◌, ◌≡◌, arith}, lemmas.Bool.Decides.nat_tests}
use Rattle.std.specs.{List.list_all, Prelude.{◌==◌, ◌||◌}}
use Rattle.argus_model.specs.Event.{Aborted, Accessed, Began, Committed, Event, Origin, Sub, origin_begun_by}
use Rattle.argus_model.specs.Event.{origin_parent}
use Rattle.argus_model.specs.{History.{History, Opened, HistoryOpening, ◌▹◌}, Lawful.{Allowed, Lawful, may_access}}
use Rattle.argus_model.specs.{HolderSteps.may_by_steps, Meaning.{Fits, Meaning}, WorkSteps.LawfulSteps}
use Rattle.argus_model.specs.{OwnerSteps.{AllStand, StandsAlone, stands}, Status.{has_live_child, is_live}}
use Rattle.argus_model.proofs.{Holders.{may_read_is, may_write_is}, Numbers.every_at, Serial.{base_stands, orderly}}
use Rattle.argus_model.proofs.{Live.{child_is, live_stands}, Sees.sees_is, Standing.Orderly}

-- the parent of an action that may begin stands
pub parent_stands : {V : Type 0} (h : History V) → Orderly h → (from : Origin)
    → (origin_begun_by from == 0 || is_live h (origin_begun_by from)) ≡ true → stands h (origin_parent from) ≡ true
parent_stands h w (Sub p) e = grind (arith, nat_tests, base_stands, live_stands)
parent_stands h w _ e = base_stands h w

-- live actions all stand, and none of them is the base
pub all_stand : {V : Type 0} (h : History V) → Orderly h → (actions : List ℕ) → list_all (is_live h) actions ≡ true
    → AllStand h actions
all_stand h w actions e = λ a i. live_stands h w a (every_at (is_live h) actions a e i)

-- a live action with no live child stands alone
stands_alone : {V : Type 0} (h : History V) → Orderly h → (a : ℕ) → is_live h a ≡ true → has_live_child h a ≡ false
    → StandsAlone h a
stands_alone h w a l n = grind (arith, nat_tests, live_stands, child_is)

module _ {V C A : Type 0} (meaning : Meaning V C A) (opening : HistoryOpening C) where
  access_by_steps : (h : History V) → Orderly h → (a o : ℕ) (v : V)
      → may_access meaning h a o v ≡ may_by_steps meaning.writes h a o (meaning.writes v) h
  access_by_steps h w a o v = grind (arith, nat_tests, may_write_is, may_read_is)

  -- an allowed event after what is lawful by steps is lawful by steps
  pub step : (h : History V) (e : Event V) → LawfulSteps meaning opening.contents h → Allowed meaning opening h e
      → LawfulSteps meaning opening.contents (e ▹ h)
  step h (Began from) s q = (parent_stands h (orderly meaning opening.contents h s) from q, s)
  step h (Committed a) s q =
      (stands_alone h (orderly meaning opening.contents h s) a q.0 q.1, s)
  step h (Aborted actions) s q = (all_stand h (orderly meaning opening.contents h s) actions q, s)
  step h (Accessed a o v) s q =
      let w = orderly meaning opening.contents h s in (
        record {
          alone = stands_alone h w a q.live q.childless;
          lock = sym (access_by_steps h w a o v) ∙ q.lock;
          answer = subst (λ c. Fits meaning v c) (sees_is meaning opening h w a o) q.answer;
        },
        s,
      )

  -- a lawful history is lawful by steps
  pub lawful_steps : (h : History V) → Lawful meaning opening h → LawfulSteps meaning opening.contents h
  lawful_steps (Opened n) l = tt
  lawful_steps (e ▹ h) l = step h e (lawful_steps h l.1) l.0

  -- a lawful history is orderly
  pub lawful_orderly : (h : History V) → Lawful meaning opening h → Orderly h
  lawful_orderly h l = orderly meaning opening.contents h (lawful_steps h l)
