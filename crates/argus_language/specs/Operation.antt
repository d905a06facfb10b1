-- What an access does with its object, as its words say; contents and values are their texts.
use Rattle.std.specs.Prelude.{ℕ, ℤ, List}

-- an operation on any object
pub data AnyOperation : Type 0 where
  create : List ℕ → AnyOperation
  read : AnyOperation
  touch : AnyOperation

-- an operation on a field of a record
pub data RecordOperation : Type 0 where
  get : RecordOperation
  set : List ℕ → RecordOperation

-- an operation on an array
pub data ArrayOperation : Type 0 where
  low : ArrayOperation
  high : ArrayOperation
  size : ArrayOperation
  bottom : ArrayOperation
  top : ArrayOperation
  fetch : ℤ → ArrayOperation
  store : ℤ → List ℕ → ArrayOperation
  addh : List ℕ → ArrayOperation
  addl : List ℕ → ArrayOperation
  remh : ArrayOperation
  reml : ArrayOperation
  set_low : ℤ → ArrayOperation
  trim : ℤ → ℤ → ArrayOperation

-- an operation on a variant, with a tag
pub data VariantOperation : Type 0 where
  is_tag : VariantOperation
  tag_value : VariantOperation
  change_tag : List ℕ → VariantOperation

-- an operation, by the kind of its object; F is what identifies fields and tags, names or numbers
pub data Operation (F : Type 0) : Type 0 where
  of_any : AnyOperation → Operation F
  of_record : F → RecordOperation → Operation F
  of_array : ArrayOperation → Operation F
  of_variant : F → VariantOperation → Operation F
