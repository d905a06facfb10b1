-- What a call says.
use Rattle.std.specs.Prelude.{ℕ}
use Rattle.argus_contents.specs.{Change.{PlainChange, plain_change}, Shape.PlainShape, declared.query.Query.Query}
use Rattle.argus_entries.specs.declared.call.Call.{Call}
use Rattle.argus_entries.specs.declared.call.Call.TheVariants as call

-- a plain call: actions and objects are their numbers, the action first
pub data PlainCall : Type 0 where
  declare : PlainShape → PlainCall
  begin_top : PlainCall
  begin_sub : (parent : ℕ) → PlainCall
  begin_nested : (creator : ℕ) → PlainCall
  commit : ℕ → PlainCall
  abort : ℕ → PlainCall
  abort_others : ℕ → PlainCall
  ask : ℕ → ℕ → Query → PlainCall
  alter : ℕ → ℕ → PlainChange → PlainCall
  test_read : ℕ → ℕ → PlainCall
  test_write : ℕ → ℕ → PlainCall

-- what a call says
abbrev pub plain_call : Call → PlainCall
plain_call (call.Declare shape) = declare shape
plain_call call.BeginTop = begin_top
plain_call (call.BeginSub parent) = begin_sub parent.0
plain_call (call.BeginNested creator) = begin_nested creator.0
plain_call (call.Commit a) = commit a.0
plain_call (call.Abort a) = abort a.0
plain_call (call.AbortOthers a) = abort_others a.0
plain_call (call.Ask a o query) = ask a.0 o.0 query
plain_call (call.Alter a o change) = alter a.0 o.0 (plain_change change)
plain_call (call.TestRead a o) = test_read a.0 o.0
plain_call (call.TestWrite a o) = test_write a.0 o.0
