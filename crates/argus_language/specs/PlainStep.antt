-- A script as the rules see it: steps, and steps within blocks.
use Rattle.std.specs.Prelude.{ℕ, List, [], ◌∷◌, map}
use Rattle.argus_contents.specs.{Change.{PlainChange, plain_change}, declared.query.Query.Query}
use Rattle.argus_language.specs.{declared.block_kind.BlockKind.BlockKind, declared.step.Step.{Step, fold-Step}}
use Rattle.argus_language.specs.declared.step.Step.TheOpen.{Step-F}

-- a step that is one line; objects, fields and tags are numbers
pub data SimpleStep : Type 0 where
  declare : SimpleStep
  ask : ℕ → Query → SimpleStep
  alter : ℕ → PlainChange → SimpleStep
  leave : SimpleStep
  abort_leave : SimpleStep
  leave_all : SimpleStep

mutual
  -- a step: a deed, or a block with the steps in it
  pub data PlainStep : Type 0 where
    simple : SimpleStep → PlainStep
    block : BlockKind → PlainSteps → PlainStep

  -- steps in order
  pub data PlainSteps : Type 0 where
    none : PlainSteps
    more : PlainStep → PlainSteps → PlainSteps

-- the steps of a list, in its order
abbrev pub listed : List PlainStep → PlainSteps
listed [] = none
listed (p ∷ ps) = more p (listed ps)

-- one level of a step, in which each step is already plain
abbrev pub plain_level : Step-F PlainStep → PlainStep
plain_level Step-F.Declare = simple declare
plain_level (Step-F.Ask x q) = simple (ask x q)
plain_level (Step-F.Alter x c) = simple (alter x (plain_change c))
plain_level Step-F.Leave = simple leave
plain_level Step-F.AbortLeave = simple abort_leave
plain_level Step-F.LeaveAll = simple leave_all
plain_level (Step-F.Block o steps) = block o (listed steps.items)

-- what a step says
abbrev pub plain_step : Step → PlainStep
plain_step = fold-Step PlainStep plain_level

-- what steps say
abbrev pub plain_steps : List Step → PlainSteps
plain_steps steps = listed (map plain_step steps)
