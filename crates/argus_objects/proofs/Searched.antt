-- Where a search by halving ends, among readers and among versions.
use Rattle.std.proofs.Common.{◌≡◌, ℕ, ◌+◌, ◌<◌, ◌≤◌, true, false, eqb, ltb, List, length, take, drop, get_or, sym, ◌∙◌}
use Rattle.std.proofs.Common.{refl, ap, subst, arith, inl, inr, zero, suc, Result, Ok, Err, IfOk, IfErr}
use Rattle.std.proofs.lemmas.{Bool.{cases_lt, ne_eqb, Decides.nat_tests}, Cmp.ranked, List.{get_or-drop, get_or-map}}
use Rattle.std.{proofs.lemmas.List.{length-drop, length-map, Folds.list_any_none}, specs.List.list_all}
use Rattle.std.specs.{List.Sorted.{IsSearchInRange, IsBinarySearchResult, IsNonDecreasingBy}, Ordering.nat_cmp}
use Rattle.std.specs.Ordering.{ordering_index}
use Rattle.argus_actions.specs.declared.action_id.ActionId.{ActionId}
use Rattle.argus_objects.specs.{declared.version.Version.Version, Object.{versions_newest_first, writers}}
use Rattle.argus_objects.specs.{Rules.is_ascending, CellChanges.has_version, Readers.{StandsAt, GoesTo}}
use Rattle.argus_objects.proofs.{Ascending.rising, InOrder.lower_than, Parted.{found, missing, one_more_older}}
use Rattle.argus_objects.proofs.Stacks.{has_newest}

-- among readers: in the action's place, or in that where it would be put
module _ (a : ActionId) (ys : List ActionId) (up : is_ascending ys ≡ true) where
  reader_tests_rise : IsNonDecreasingBy (λ (y : ActionId). ordering_index (nat_cmp y.0 a.0)) ys
  reader_tests_rise i j d le below = grind (arith, nat_tests, rising)

  all_older : (at : ℕ) → at ≤ length ys → ((k : ℕ) (d : ActionId) → k < at → (get_or ys k d).0 < a.0)
      → list_all (λ x. ltb x.0 a.0) (take at ys) ≡ true
  all_older zero le lt = refl
  all_older (suc k) le lt =
      let next : k + 1 ≡ suc k = omega arith in
      subst (λ n. list_all (λ (x : ActionId). ltb x.0 a.0) (take n ys) ≡ true) next
      (one_more_older a ys k a up (omega arith) (lt k a (omega arith)))

  pub reader_searched : (r : Result ℕ ℕ) → IsSearchInRange r (length ys)
      → IsBinarySearchResult (λ (y : ActionId). nat_cmp y.0 a.0) ys r
      → record { found : IfOk r (StandsAt a ys); missing : IfErr r (GoesTo a ys) }
  reader_searched (Ok at) below equal =
      let same : (d : ActionId) → (get_or ys at d).0 ≡ a.0 = λ d. ranked (get_or ys at d).0 a.0 _ (sym (equal d)) in
      record {
        found = found a ys at a up (record {
          bound = omega arith;
          older = lower_than a ys at a up below (let e = same a in omega (arith, e));
          newer = λ d lt. let e = same d in omega (arith, e);
        }) below (same a);
        missing = tt;
      }
  reader_searched (Err at) bound parted =
      let older : (k : ℕ) (d : ActionId) → k < at → (get_or ys k d).0 < a.0 =
      λ k d lt. ranked (get_or ys k d).0 a.0 _ (sym ((parted reader_tests_rise).0 k d (omega arith) lt)) in
      let newer : (d : ActionId) → at < length ys → a.0 < (get_or ys at d).0 =
      λ d lt. ranked (get_or ys at d).0 a.0 _ (sym ((parted reader_tests_rise).1 at d (omega arith) lt)) in
      record {
        found = tt;
        missing = missing a ys at a up (record {
          bound = bound;
          older = all_older at bound older;
          newer = λ d lt. let more = newer d lt in omega (arith, more);
        }) (λ lt e. let more = newer a lt in omega (arith, more, e));
      }

-- the search ends at the version of the action, and those behind are others'
pub record IsVersionAt (a : ActionId) (vs : List Version) (at : ℕ) : Type 0 where
  pub below : at < length vs
  pub here : (d : Version) → (get_or vs at d).holder.0 ≡ a.0
  pub behind : has_version a (versions_newest_first (drop (at + 1) vs)) ≡ false

-- among versions, which go from ancestor to descendant: at the action's version, or there is none
module _ (a : ActionId) (vs : List Version) (up : is_ascending (writers vs) ≡ true) where
  older_holder : (i j : ℕ) (d : Version) → i < j → j < length vs → (get_or vs i d).holder.0 < (get_or vs j d).holder.0
  older_holder i j d lt below =
      let read = get_or-map (λ (v : Version). v.holder) vs in
      let many = length-map vs (λ (v : Version). v.holder) in
      grind (arith, nat_tests, read, many, rising (writers vs) i j d.holder up lt)

  version_tests_rise : IsNonDecreasingBy (λ (v : Version). ordering_index (nat_cmp v.holder.0 a.0)) vs
  version_tests_rise i j d le below = grind (arith, nat_tests, older_holder)

  pub version_searched : (r : Result ℕ ℕ) → IsSearchInRange r (length vs)
      → IsBinarySearchResult (λ (v : Version). nat_cmp v.holder.0 a.0) vs r
      → record {
        found : IfOk r (IsVersionAt a vs);
        missing : IfErr r (λ at. has_version a (versions_newest_first vs)
            ≡ false);
      }
  version_searched (Ok at) below equal =
      let same : (d : Version) → (get_or vs at d).holder.0 ≡ a.0 =
      λ d. ranked (get_or vs at d).holder.0 a.0 _ (sym (equal d)) in
      record {
        found = record {
          below = below;
          here = same;
          behind = has_newest a (drop (at + 1) vs)
              ∙ list_any_none (λ (v : Version). eqb v.holder.0 a.0) (drop (at + 1) vs) (λ k d b.
              let more : at + 1 + k < length vs = omega (arith, b, length-drop (at + 1) vs) in
              let less = older_holder at (at + 1 + k) d (omega arith) more in
              ne_eqb (get_or (drop (at + 1) vs) k d).holder.0 a.0 (λ e.
              omega (arith, less, same d, e, ap (λ (v : Version). v.holder.0) (get_or-drop (at + 1) vs k d))));
        };
        missing = tt;
      }
  version_searched (Err at) bound parted =
      let ends = parted version_tests_rise in
      record {
        found = tt;
        missing = has_newest a vs
            ∙ list_any_none (λ (v : Version). eqb v.holder.0 a.0) vs (λ k d b.
            ne_eqb (get_or vs k d).holder.0 a.0 (λ e. elim (cases_lt k at) [
              | inl lt ↦
                  let less : (get_or vs k d).holder.0 < a.0 = ranked (get_or vs k d).holder.0 a.0 _ (sym (ends.0 k d
                  (omega arith) lt)) in
                  omega (arith, less, e)
              | inr ge ↦
                  let more : a.0 < (get_or vs k d).holder.0 = ranked (get_or vs k d).holder.0 a.0 _ (sym (ends.1 k d
                  ge b)) in
                  omega (arith, more, e)
            ]));
      }
