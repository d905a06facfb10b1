-- What a value says, apart from where it is in memory.
use Rattle.std.specs.{Prelude.{ℕ, ℤ, Bool, List, [], ◌∷◌, map, string_bytes, Option, Some, None}, Borrow.Bor}
use Rattle.argus_contents.specs.{declared.value.Value.{Value, fold-Value}, declared.value.Value.TheOpen.Value-F}

mutual
  -- a plain value; a text is its bytes in UTF-8
  pub data PlainValue : Type 0 where
    null : PlainValue
    bool : Bool → PlainValue
    int : ℤ → PlainValue
    text : List ℕ → PlainValue
    atomic : ℕ → PlainValue
    sequence : PlainValues → PlainValue
    fields : PlainValues → PlainValue
    choice : ℕ → PlainValue → PlainValue

  -- plain values in order
  pub data PlainValues : Type 0 where
    none : PlainValues
    more : PlainValue → PlainValues → PlainValues

-- the values of a list, in its order
abbrev pub listed : List PlainValue → PlainValues
listed [] = none
listed (v ∷ vs) = more v (listed vs)

-- one level of a value, whose parts are already plain
abbrev pub plain_level : Value-F PlainValue → PlainValue
plain_level Value-F.Null = null
plain_level (Value-F.Bool b) = bool b
plain_level (Value-F.Int n) = int n
plain_level (Value-F.Text s) = text (string_bytes s.value)
plain_level (Value-F.Atomic o) = atomic o.0
plain_level (Value-F.Sequence vs) = sequence (listed vs.value.items)
plain_level (Value-F.Fields vs) = fields (listed vs.value.items)
plain_level (Value-F.Choice t v) = choice t v.value

-- what a value says
abbrev pub plain_value : Value → PlainValue
plain_value = fold-Value PlainValue plain_level

-- what each value of a list says
abbrev pub plain_list : List Value → List PlainValue
plain_list vs = map plain_value vs

-- what a value says, if there is one
abbrev pub plain_found : Option (Bor Value) → Option PlainValue
plain_found None = None
plain_found (Some v) = Some (plain_value v.now)
