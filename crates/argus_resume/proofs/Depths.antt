-- What a change leaves and returns, and what a query returns, is no deeper than what was there and what was passed in.
use Rattle.std.proofs.{lemmas.Int.ints, Common.{Bool, List, None, Option, Some, [], arith, drop, length, pos, suc}}
use Rattle.std.proofs.Common.{take, zero, ℕ, ℤ, ◌++◌, ◌-ℤ◌, ◌<◌, ◌^◌, ◌∷◌, ◌≤ℤ◌}
use Rattle.std.specs.{Option.option_and_then, Prelude.{if◌then◌else◌, slice_get, slice_set}}
use Rattle.argus_contents.specs.{Answer.value_or, Change.{trimmed, variant_outcome, Outcome, PlainChange}}
use Rattle.argus_contents.specs.Change.{array_outcome, absent_outcome, outcome, record_outcome, removed_low, stored_at}
use Rattle.argus_contents.specs.{Content.{KeepsBounds, KeepsLimits, PlainContent, arr, rec, var}, Place.high_of}
use Rattle.argus_contents.specs.{Query.{array_reply, record_reply, reply, variant_reply}, Value.{PlainValue, listed}}
use Rattle.argus_contents.specs.declared.{query.Query.Query, signal.Signal.Signal, limits.TheConstants.MAX_BOUND}
use Rattle.argus_contents.specs.declared.limits.TheConstants.{MAX_VALUE_DEPTH, MIN_BOUND}
use Rattle.argus_reading.specs.OpeningLanguages.{IsReadableContent}
use Rattle.argus_texts.specs.{ContentSpelling.PartsWithin, Spelling.{AllWithin, IsI64, Within}}
use Rattle.argus_entries.specs.Laws.{AnswerWithin, ChangeWithin}

-- what holds of each arm holds of the choice
pub by_if : {A : Type 0} (P : A → Type 0) (b : Bool) (x y : A) → P x → P y → P (if b then x else y)
by_if p q x y t f = grind arith

-- the values of a content have depth at most k; of an array's low bound nothing is said
abbrev pub ValuesWithin : ℕ → Option PlainContent → Type 0
ValuesWithin k None = Unit {0}
ValuesWithin k (Some (rec vs)) = AllWithin k (listed vs)
ValuesWithin k (Some (arr low vs)) = AllWithin k (listed vs)
ValuesWithin k (Some (var t v)) = (t < 2 ^ 8) × Within k v

-- such are the values of a content that a line stands for
pub parts_within : (k : ℕ) (c : PlainContent) → PartsWithin k c → ValuesWithin k (Some c)
parts_within k p w = grind arith

-- INTEGERS

within_i64 : (z : ℤ) → (MIN_BOUND -ℤ pos 1) ≤ℤ z → z ≤ℤ MAX_BOUND → IsI64 z
within_i64 p low high = grind (arith, ints)

low_i64 : (low : ℤ) (size : ℕ) → KeepsBounds low size → IsI64 low
low_i64 low size k = grind (arith, within_i64, ints)

high_i64 : (low : ℤ) (size : ℕ) → KeepsBounds low size → IsI64 (high_of low size)
high_i64 low size k = grind (arith, within_i64, ints)

module _ (k : ℕ) where
  -- VALUES OF A LIST

  set_within : (vs : List PlainValue) (i : ℕ) (v : PlainValue) → Within k v → AllWithin k (listed vs)
      → AllWithin k (listed (slice_set vs i v))
  set_within [] i v h w = w
  set_within (u ∷ us) zero v h w = (h, w.1)
  set_within (u ∷ us) (suc i) v h w = (w.0, set_within us i v h w.1)

  append_within : (vs : List PlainValue) (v : PlainValue) → Within k v → AllWithin k (listed vs)
      → AllWithin k (listed (vs ++ v ∷ []))
  append_within [] v h w = (h, tt)
  append_within (u ∷ us) v h w = (w.0, append_within us v h w.1)

  take_within : (n : ℕ) (vs : List PlainValue) → AllWithin k (listed vs) → AllWithin k (listed (take n vs))
  take_within zero [] w = w
  take_within zero (u ∷ us) w = tt
  take_within (suc n) [] w = w
  take_within (suc n) (u ∷ us) w = (w.0, take_within n us w.1)

  drop_within : (n : ℕ) (vs : List PlainValue) → AllWithin k (listed vs) → AllWithin k (listed (drop n vs))
  drop_within zero [] w = w
  drop_within zero (u ∷ us) w = w
  drop_within (suc n) [] w = w
  drop_within (suc n) (u ∷ us) w = drop_within n us w.1

  item_within : (s : Signal) (vs : List PlainValue) (i : ℕ) → AllWithin k (listed vs)
      → AnswerWithin k (value_or s (slice_get vs i))
  item_within s [] i w = tt
  item_within s (u ∷ us) zero w = w.0
  item_within s (u ∷ us) (suc i) w = item_within s us i w.1

  at_place : (s : Signal) (vs : List PlainValue) (place : Option ℕ) → AllWithin k (listed vs)
      → AnswerWithin k (value_or s (option_and_then (slice_get vs) place))
  at_place s vs p w = grind (arith, item_within)

  -- CHANGES

  abbrev Keeps : Outcome → Type 0
  Keeps o = ValuesWithin k o.0 × AnswerWithin k o.1

  stored : (place : Option ℕ) (v : PlainValue) (low : ℤ) (vs : List PlainValue) → Within k v
      → AllWithin k (listed vs) → Keeps (stored_at place v low vs)
  stored p v low vs h w = grind (arith, set_within)

  removed : (low : ℤ) (vs : List PlainValue) → AllWithin k (listed vs) → Keeps (removed_low low vs)
  removed low p w = grind (arith, by_if)

  trimmed_within : (why : Option Signal) (from count low : ℤ) (vs : List PlainValue) → AllWithin k (listed vs)
      → Keeps (trimmed why from count low vs)
  trimmed_within p from count low vs w = grind (arith, drop_within, take_within)

  absent_within : (x : PlainChange) → ChangeWithin k x → Keeps (absent_outcome x)
  absent_within p h = grind (arith, parts_within)

  record_within : (x : PlainChange) (vs : List PlainValue) → ChangeWithin k x → AllWithin k (listed vs)
      → Keeps (record_outcome x vs)
  record_within p vs h w = grind (arith, by_if, set_within)

  array_within : (x : PlainChange) (low : ℤ) (vs : List PlainValue) → ChangeWithin k x → AllWithin k (listed vs)
      → Keeps (array_outcome x low vs)
  array_within p low vs h w =
      grind (arith, stored, by_if, append_within, take_within, item_within, removed, trimmed_within)

  variant_within : (x : PlainChange) (t : ℕ) (v : PlainValue) → ChangeWithin k x → (t < 2 ^ 8) × Within k v
      → Keeps (variant_outcome x t v)
  variant_within p t v h w = grind arith

  -- a change leaves values and answers one that are as deep at most
  pub change_within : (x : PlainChange) (c : Option PlainContent) → ChangeWithin k x → ValuesWithin k c
      → Keeps (outcome x c)
  change_within x p h w = grind (arith, absent_within, record_within, array_within, variant_within)

  -- QUERIES

  record_answer : (q : Query) (vs : List PlainValue) → AllWithin k (listed vs) → AnswerWithin k (record_reply q vs)
  record_answer p vs w = grind (arith, item_within)

  array_answer : (q : Query) (low : ℤ) (vs : List PlainValue) → KeepsBounds low (length vs)
      → AllWithin k (listed vs) → AnswerWithin k (array_reply q low vs)
  array_answer p low vs b w = grind (arith, low_i64, high_i64, at_place, item_within)

  variant_answer : (q : Query) (t : ℕ) (v : PlainValue) → (t < 2 ^ 8) × Within k v
      → AnswerWithin k (variant_reply q t v)
  variant_answer p t v w = grind (arith, by_if)

  -- a query of a content that keeps the limits answers a value or a content that is as deep at most
  pub answer_within : (q : Query) (c : Option PlainContent) → KeepsLimits c → ValuesWithin k c
      → AnswerWithin k (reply q c)
  answer_within q p b w = grind (arith, record_answer, array_answer, variant_answer)

-- a content that keeps the limits, with values of depth at most 16, is one that a line stands for
pub content_readable : (c : Option PlainContent) → KeepsLimits c → ValuesWithin MAX_VALUE_DEPTH c → IsReadableContent c
content_readable p b w = grind (arith, low_i64)
