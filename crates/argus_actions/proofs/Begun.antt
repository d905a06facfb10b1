-- The nodes after an action was begun.
use Rattle.std.proofs.Common.{◌≡◌, ℕ, suc, ◌+◌, ◌<◌, ◌≤◌, Bool, false, cond, ltb, List, [], ◌∷◌, ◌++◌, length, get_or}
use Rattle.std.proofs.{Common.{Some, None, refl, sym, ◌∙◌, ap, arith, inl, inr, ◌⊎◌}, lemmas.Bool.Decides.nat_tests}
use Rattle.std.proofs.lemmas.{Bool.{le-ltb, cases_eq}, List.{length-append, get_or_append_left, get_or_push}}
use Rattle.argus_contents.specs.declared.limits.TheConstants.{MAX_ACTIONS, MAX_ACTION_DEPTH}
use Rattle.argus_actions.specs.declared.{node.Node.Node, origin.Origin.Origin, status.Status.TheVariants.Live}
use Rattle.argus_actions.specs.Rows.{newest_child_below, depth_at, is_live_under, live_count, newest_where}
use Rattle.argus_actions.specs.{Rows.newest_below, Row.{Row, at_parent, under_of, is_sub_of, is_begun_under}}
use Rattle.argus_actions.specs.Nodes.{row_of_node, rows_of, IsBegunBetween, AreLinked, AreNodes, IsNode, link_to}
use Rattle.argus_actions.specs.Nodes.{adopted, fresh, older_sub_link, older_child_link}
use Rattle.argus_actions.proofs.{RowsLemmas.depth_at_older, Marks.{at_parent_same, each_under}}
use Rattle.argus_actions.proofs.NodesLemmas.{length-rows_of, rows_of-push, rows_of-same}

-- a bound past all actions is no bound
pub newest_where_all : (test : Origin → Bool) (n : ℕ) (rows : List Row) (b c : ℕ) → n + length rows ≤ b
    → n + length rows ≤ c → newest_where test n rows b ≡ newest_where test n rows c
newest_where_all test n [] b c past_b past_c = refl
newest_where_all test n (row ∷ older) b c past_b past_c = grind (arith, nat_tests, newest_where_all test n older b c)

-- the newest action is not below its own number
pub newest_where_own : (test : Origin → Bool) (n : ℕ) (row : Row) (older : List Row) (b : ℕ) → b ≤ n + length older
    → newest_where test n (row ∷ older) b ≡ newest_where test n older b
newest_where_own test n row older b low = rw (le-ltb (n + length older) b low)

-- an action that was not begun, or is folded, has nothing under it
pub not_own : (n high a : ℕ) (o : Origin) → IsBegunBetween n high o → (high ≤ a) ⊎ (a < n) → is_begun_under a o ≡ false
not_own n high a o between outside = grind (arith, nat_tests)

pub not_own_sub : (n high a : ℕ) (o : Origin) → IsBegunBetween n high o → (high ≤ a) ⊎ (a < n) → is_sub_of a o ≡ false
not_own_sub n high a o between outside = grind (arith, nat_tests)

-- where no origin passes the test, no action does
pub newest_where_none : (test : Origin → Bool) (n : ℕ) (rows : List Row) (a b : ℕ) → AreLinked n rows
    → (n + length rows ≤ a) ⊎ (a < n)
    → ((high : ℕ) (o : Origin) → IsBegunBetween n high o → (high ≤ a) ⊎ (a < n) → test o ≡ false)
    → newest_where test n rows b ≡ None
newest_where_none test n [] a b linked outside fails = refl
newest_where_none test n (row ∷ older) a b linked outside fails =
    grind (arith, nat_tests, newest_where_none test n older a b linked.1)

pub newest_below_none : (n : ℕ) (rows : List Row) (a b : ℕ) → AreLinked n rows → (n + length rows ≤ a) ⊎ (a < n)
    → newest_below n rows a b ≡ None
newest_below_none n rows a b linked outside =
    newest_where_none (is_sub_of a) n rows a b linked outside (λ high o. not_own_sub n high a o)

pub newest_child_none : (n : ℕ) (rows : List Row) (a b : ℕ) → AreLinked n rows → (n + length rows ≤ a) ⊎ (a < n)
    → newest_child_below n rows a b ≡ None
newest_child_none n rows a b linked outside =
    newest_where_none (is_begun_under a) n rows a b linked outside (λ high o. not_own n high a o)

pub live_count_none : (n : ℕ) (rows : List Row) (a : ℕ) → AreLinked n rows → (n + length rows ≤ a) ⊎ (a < n)
    → live_count rows a ≡ 0
live_count_none n [] a linked outside = refl
live_count_none n (row ∷ older) a linked outside = grind (arith, nat_tests, not_own, live_count_none n older a linked.1)

pub live_count-le-length : (rows : List Row) (a : ℕ) → live_count rows a ≤ length rows
live_count-le-length [] a = omega arith
live_count-le-length (row ∷ older) a = grind (arith, nat_tests, live_count-le-length older a)

-- some live action was begun under this one where any are counted
pub is_live_under_is : (rows : List Row) (a : ℕ) → is_live_under rows a ≡ ltb 0 (live_count rows a)
is_live_under_is [] a = refl
is_live_under_is (row ∷ older) a = grind (arith, nat_tests, is_live_under_is older a)

-- a count of children has room for one more
pub child_fits : (n : ℕ) (nodes : List Node) (a k : ℕ) (d : Node) → AreNodes n nodes → a ≡ n + k → k < length nodes
    → (get_or nodes k d).live_children + 1 ≤ MAX_ACTIONS + 1
child_fits n nodes a k d kept at below =
    let count : (get_or nodes k d).live_children ≡ live_count (rows_of nodes) a = (kept.each a k d at below).children in
    omega (arith, live_count-le-length (rows_of nodes) a, length-rows_of nodes, kept.few)

pub under_between : (n high under : ℕ) (o : Origin) → IsBegunBetween n high o → under_of o ≡ Some under
    → (n ≤ under) × (under < high)
under_between n high under o between is = grind (arith, nat_tests)

module _ (n : ℕ) (nodes new : List Node) (origin : Origin) (number older child depth : ℕ)
    (kept : AreNodes n nodes) (next : number ≡ n + length nodes) (few : number < MAX_ACTIONS)
    (between : IsBegunBetween n number origin)
    (long : length new ≡ length nodes)
    (each : (a k : ℕ) (d : Node) → a ≡ n + k → k < length nodes
    → get_or new k d ≡ adopted origin number a (get_or nodes k d))
    (older_is : older ≡ older_sub_link n (rows_of nodes) origin)
    (child_is : child ≡ older_child_link n (rows_of nodes) origin)
    (depth_is : depth ≡ at_parent 0 origin (depth_at n (rows_of nodes)) + 1) (shallow : depth ≤ MAX_ACTION_DEPTH) where
  abbrev begun : Row
  begun = record { origin = origin; status = Live }

  pub begun_rows : rows_of (new ++ fresh origin older child depth ∷ [])
      ≡ (let r : Row = record { origin = origin; status = Live } in r ∷ rows_of nodes)
  begun_rows = rows_of-push new (fresh origin older child depth)
      ∙ ap (λ (rows : List Row). begun ∷ rows) (rows_of-same n nodes new long
      (λ k d below. ap row_of_node (each (n + k) k d refl (omega arith))))

  -- the number is the next after the rows
  last : number ≡ n + length (rows_of nodes)
  last = omega (arith, length-rows_of nodes)

  -- the newest action that passes a test of origins, with one row more
  newest_now : (test : Origin → Bool) (link : ℕ) → link ≡ link_to
      (newest_where test n (rows_of nodes) (n + length (rows_of nodes)))
      → cond (test origin) number link ≡ link_to (newest_where test n (begun ∷ rows_of nodes)
      (n + suc (length (rows_of nodes))))
  newest_now test link was = grind (arith, nat_tests, last, newest_where_all)

  -- an older action's node, with one row more
  older_node : (a k : ℕ) (d : Node) → a ≡ n + k → k < length nodes
      → IsNode n (begun ∷ rows_of nodes) a (adopted origin number a (get_or nodes k d))
  older_node a k d at in_old =
      let was : IsNode n (rows_of nodes) a (get_or nodes k d) = kept.each a k d at in_old in
      let low : a ≤ n + length (rows_of nodes) = omega (arith, last) in
      record {
        newest = newest_now (is_sub_of a) (get_or nodes k d).newest_sub was.newest;
        older = grind (arith, nat_tests, at_parent_same, newest_where_own);
        newest_child = newest_now (is_begun_under a) (get_or nodes k d).newest_child was.newest_child;
        older_child = grind (arith, nat_tests, each_under, newest_where_own);
        children = grind (arith, nat_tests);
        depth = was.depth ∙ sym (depth_at_older n begun (rows_of nodes) a (λ e. omega (arith, last)));
        shallow = was.shallow;
      }

  newest_node : IsNode n (begun ∷ rows_of nodes) number (fresh origin older child depth)
  newest_node =
      grind (
        arith,
        nat_tests,
        last,
        newest_where_all,
        newest_where_own,
        not_own_sub,
        newest_below_none,
        at_parent_same,
        not_own,
        newest_child_none,
        each_under,
        live_count_none,
      )

  pub begun_nodes : AreNodes n (new ++ fresh origin older child depth ∷ [])
  begun_nodes =
      record {
        few = rw (length-append new (fresh origin older child depth ∷ [])) (omega arith);
        linked = grind (arith, nat_tests, begun_rows, last);
        each = λ a k d at below.
            let below' : k < length new + 1 = rw (length-append new (fresh origin older child depth ∷ [])) at below in
            rw begun_rows (elim (cases_eq k (length nodes)) [
              | inl e ↦ grind (arith, nat_tests, get_or_push, newest_node)
              | inr ne ↦
                  let in_old : k < length nodes = omega arith in
                  rw (
                    get_or_append_left new (fresh origin older child depth ∷ []) d k (omega arith),
                    each a k d at in_old,
                  ) (older_node a k d at in_old)
            ]);
      }
