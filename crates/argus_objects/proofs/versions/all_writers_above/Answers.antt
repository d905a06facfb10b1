-- One holder more is above, or the answer is known.
use Rattle.std.proofs.Common.{List, ap, arith, false, get_or, length, subst, sym, take, true, ℕ, ◌+◌, ◌-◌, ◌<◌, ◌∙◌, ◌≡◌}
use Rattle.std.proofs.lemmas.{Bool.Decides.nat_tests, Grind.common_steps, List.{get_or-map, length-map, take_all}}
use Rattle.argus_actions.specs.{declared.action_id.ActionId.ActionId, Tree.{Tree, is_ancestor}}
use Rattle.argus_objects.specs.{declared.version.Version.Version, Object.writers, Rules.{all_above, is_ascending}}
use Rattle.argus_objects.proofs.{Ascending.{climb_on, climb_off}, Stacks.all_holders}
use Rattle.argus_objects.proofs.versions.all_writers_above.Goals as goal

-- The holder of the next version is the next of the holders. If it is above, the climb goes on from it, or else ends.
module _ (t : Tree) (vs : List Version) (k : ℕ) (at : ActionId) (d : Version) (low : k < length vs) where
  next_holder : get_or (writers vs) k d.holder ≡ (get_or vs k d).holder
  next_holder = get_or-map (λ (v : Version). v.holder) vs k d d.holder low

  below : k < length (writers vs)
  below = subst (λ n. k < n) (sym (length-map vs (λ (v : Version). v.holder))) low

  goes_on : is_ascending (writers vs) ≡ true → is_ancestor t (get_or vs k d).holder.0 at.0 ≡ true
      → all_above t (get_or vs k d).holder (take k (writers vs)) ≡ all_above t at (take (k + 1) (writers vs))
  goes_on asc up = grind (arith, nat_tests, climb_on, below, next_holder)

  ends : is_ancestor t (get_or vs k d).holder.0 at.0 ≡ false → false ≡ all_above t at (take (k + 1) (writers vs))
  ends off = grind (arith, nat_tests, climb_off, below, next_holder)

pub loop-left-init : goal.loop-left-init
loop-left-init c = grind (arith, common_steps, length-map, take_all, all_holders)

pub loop-left-preserved : goal.loop-left-preserved
loop-left-preserved c =
    let k : ℕ = c.loop-left.left - 1 in
    let more : k + 1 ≡ c.loop-left.left = omega arith in
    record {
      bound = omega arith;
      same = goes_on c.args.tree.now c.args.versions.now k c.loop-left.at c.index-versions-left.result (omega arith)
          c.requires (sym c.is_ancestor.ensures ∙ c.if-not-is_ancestor.false)
          ∙ (ap (λ n. all_above c.args.tree.now c.loop-left.at (take n (writers c.args.versions.now))) more
          ∙ c.loop-left.invariant.same);
    }

pub returns-then-not-is_ancestor : goal.returns-then-not-is_ancestor
returns-then-not-is_ancestor c =
    let k : ℕ = c.loop-left.left - 1 in
    let more : k + 1 ≡ c.loop-left.left = omega arith in
    ends c.args.tree.now c.args.versions.now k c.loop-left.at c.index-versions-left.result (omega arith)
    (sym c.is_ancestor.ensures ∙ c.if-not-is_ancestor.true)
    ∙ (ap (λ n. all_above c.args.tree.now c.loop-left.at (take n (writers c.args.versions.now))) more
    ∙ c.loop-left.invariant.same)
