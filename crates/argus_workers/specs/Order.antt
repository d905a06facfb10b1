-- Which calls are parallel, and the order of those that aren't.
use Rattle.std.specs.{Prelude.{Bool, List, None, Option, Some, false, not, ◌&&◌, ◌==◌, ◌≡◌, ◌<◌, nat_lt}, List.AllPairs}
use Rattle.argus_workers.specs.{declared.arm_number.ArmNumber.ArmNumber, declared.made_call.MadeCall.MadeCall}
use Rattle.argus_workers.specs.declared.ordering.Order.{Order}

-- two different arms of one outermost coenter
abbrev pub parallel : Option ArmNumber → Option ArmNumber → Bool
parallel (Some x) (Some y) = x.coenter == y.coenter && not (x.arm == y.arm)
parallel (Some x) None = false
parallel None y = false

-- the calls are parallel, or the first has the lower number
abbrev pub InTurn : MadeCall → MadeCall → Type 0
InTurn x y = parallel x.arm y.arm ≡ false → x.at < y.at

-- of two calls that aren't parallel the earlier has the lower number
abbrev pub InOrder : List MadeCall → Type 0
InOrder calls = AllPairs InTurn calls

-- in the coenter of this arm, and in this arm or an earlier one
abbrev pub up_to : ArmNumber → Option ArmNumber → Bool
up_to last None = false
up_to last (Some x) = last.coenter == x.coenter && not (nat_lt last.arm x.arm)

-- what an order says of an earlier call, if this arm made the last one
abbrev pub HeldFrom : Option ArmNumber → Order → MadeCall → Type 0
HeldFrom None o c = Unit {0}
HeldFrom (Some last) o c = (parallel c.arm (Some last) ≡ false → c.at < o.within)
    × (up_to last c.arm ≡ false → c.at < o.beside)

-- what an order says of an earlier call: its number is below the least that a next call may have
-- that isn't parallel to it
abbrev pub IsBelowBounds : Order → MadeCall → Type 0
IsBelowBounds o c = (c.at < o.elsewhere) × HeldFrom o.arm o c

-- the call may come next, and then this is the order
abbrev pub MayComeNext : Order → MadeCall → Order → Type 0
MayComeNext o call next =
    ((c : MadeCall) → IsBelowBounds o c → IsBelowBounds next c × InTurn c call)
    × IsBelowBounds next call
