-- What a listing is made of.
use Rattle.std.specs.Prelude.{◌≡◌, map, List}
use Rattle.sqlite.specs.Order.{Row}
use Rattle.argus_store.specs.{Journal.{Journal, shown_batch, shown_line}, Head.IsHeadOf}
use Rattle.argus_store.specs.{declared.head.Head.Head, declared.faulty_row.FaultyRow.FaultyRow}
use Rattle.argus_store.specs.declared.listing_error.ListingError.{ListingError}
use Rattle.argus_store.specs.declared.listing_error.ListingError.TheVariants as error

-- a log's head and its rows, as a store shows them
pub record AreOf (j : Journal) (head : Head) (opening batches : List Row) : Type 0 where
  pub head_is : IsHeadOf j head
  pub opening_is : opening ≡ map shown_line j.opening
  pub batches_are : batches ≡ map shown_batch j.batches

-- there is no memory; or this row is the first that doesn't follow
abbrev pub HasNoListing : (FaultyRow → Type 0) → ListingError → Type 0
HasNoListing is_first (error.Row fault) = is_first fault
HasNoListing is_first error.OutOfMemory = Unit {0}
