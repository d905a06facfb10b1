-- A log whose rows follow from one another, after one append and another, or after a fold.
use Rattle.std.proofs.Common.{◌≡◌, ◌++◌, ℕ, pos, List, [], ◌∷◌, flat_map, refl, sym, ap, ap₂, ◌∙◌}
use Rattle.std.proofs.Common.{append_assoc, append-nil}
use Rattle.std.proofs.lemmas.Grind.{flat_map-append}
use Rattle.argus_store.specs.{declared.end.End.End, End.{EndsAt, end_after, end_folded, folded, with_lines}}
use Rattle.argus_store.specs.{Journal.{Batch, Journal, one_row}, Summing.log_sum}
use Rattle.argus_store.specs.Chain.{Follow, IsChained, IsNext, Opens, begins_after, ended, listing_of}
use Rattle.argus_store.specs.Runs.{end_behind, with_all}
use Rattle.argus_store.proofs.Chains.{batch_texts, ended_texts}

-- a batch more, behind the last one
goes_on : (name : List ℕ) (at : End) (bs : List Batch) (end : End) (b : Batch) → Follow name at bs end
    → IsNext name end b → Follow name at (bs ++ b ∷ []) (end_after name end b.lines)
goes_on name at [] end b h next = rw h (next, refl)
goes_on name at (c ∷ bs) end b h next = (h.0, goes_on name (end_after name at c.lines) bs end b h.1 next)

-- a log ends in one place
one_end : (j : Journal) (name : List ℕ) (d e : End) → EndsAt j j.name d → EndsAt j name e → d ≡ e
one_end j name d e one two =
    let next : d.next ≡ e.next = let h = sym one.next_is ∙ two.next_is in cc in
    let sum : d.sum ≡ e.sum = let h = sym one.sum_is ∙ two.sum_is in cc in
    ap₂ (λ n s. record { next = n; sum = s }) next sum

module _ (j : Journal) (name : List ℕ) (end : End) (lines : List ℕ) (chained : IsChained j)
    (ends : EndsAt j name end) where
  pub chained_then : IsChained (with_lines j name end lines)
  chained_then = record {
    entry = chained.entry;
    end = end_after name end lines;
    in_place = chained.in_place;
    begins = chained.begins;
    follow = rw (ends.name_is) (goes_on name (begins_after name j.opening chained.entry) j.batches end _
        (rw (ends.name_is, one_end j name chained.end end chained.ends ends) at chained.follow) (refl, refl));
    ends = record { name_is = refl; next_is = refl; sum_is = refl };
  }

  pub ends_then : EndsAt (with_lines j name end lines) name (end_after name end lines)
  ends_then = record { name_is = ends.name_is; next_is = refl; sum_is = refl }

  pub listed_then : listing_of (with_lines j name end lines) ≡ listing_of j ++ ended lines
  listed_then = ap (λ t. ended_texts j.opening ++ t) (flat_map-append (λ (b : Batch). ended b.lines) j.batches _
      ∙ ap (λ t. batch_texts j.batches ++ t) (append-nil (ended lines)))
      ∙ sym (append_assoc (ended_texts j.opening) (batch_texts j.batches) (ended lines))

pub runs : (j : Journal) (name : List ℕ) (end : End) (all : List (List ℕ)) → IsChained j → EndsAt j name end
    → IsChained (with_all j name end all) × EndsAt (with_all j name end all) name (end_behind name end all)
    × (listing_of (with_all j name end all) ≡ listing_of j ++ flat_map ended all)
runs j name end [] chained ends = (chained, ends, sym (append-nil (listing_of j)))
runs j name end (lines ∷ more) chained ends =
    let rest = runs (with_lines j name end lines) name (end_after name end lines) more
    (chained_then j name end lines chained ends) (ends_then j name end lines chained ends) in (
      rest.0,
      rest.1,
      rest.2 ∙ ap (λ t. t ++ flat_map ended more) (listed_then j name end lines chained ends)
          ∙ append_assoc (listing_of j) (ended lines) (flat_map ended more),
    )

pub folds : (j : Journal) (name : List ℕ) (end : End) (opening : List ℕ) → EndsAt j name end
    → Opens end opening → IsChained (folded j name end opening)
    × EndsAt (folded j name end opening) name (end_folded name end opening)
    × (listing_of (folded j name end opening) ≡ ended opening)
folds j name end opening ends opens = (
  record {
    entry = end.next;
    end = begins_after j.name (one_row opening) end.next;
    in_place = (refl, tt);
    begins = opens.1;
    follow = refl;
    ends = record {
      name_is = refl;
      next_is = refl;
      sum_is = ap pos (ap₂ (λ n t. log_sum n end.next 0 t) (sym ends.name_is) (sym (append-nil opening)));
    };
  },
  record { name_is = ends.name_is; next_is = refl; sum_is = refl },
  append-nil (ended opening ++ []) ∙ append-nil (ended opening),
)
