-- What a change leaves of the versions, if it succeeds and if it finds no memory.
use Rattle.std.proofs.Common.{◌≡◌, ℕ, ◌+◌, ◌<◌, true, false, eqb, ltb, ◌&&◌, List, [], ◌∷◌, ◌++◌, map, length, take}
use Rattle.std.proofs.{Common.{get_or, set, Option, refl, sym, ◌∙◌, ap, arith}, lemmas.List.Folds.list_all-append}
use Rattle.std.{proofs.lemmas.{List.{take_all, take_more, get_or_default}, Bool.Decides.nat_tests}, specs.Prelude.IfOk}
use Rattle.std.specs.{Prelude.{OnOk, OnErr, Result, Ok, Err}, List.{list_all, list_any}}
use Rattle.argus_actions.specs.{declared.action_id.ActionId.ActionId, Tree.Tree}
use Rattle.argus_memory.specs.declared.out_of_memory.OutOfMemory.{OutOfMemory}
use Rattle.argus_contents.specs.{Answer.PlainAnswer, Change.{PlainChange, outcome}, Content.PlainContent}
use Rattle.argus_contents.specs.Content.{plain_option}
use Rattle.argus_objects.specs.{declared.version.Version.Version, Object.{Object, PlainVersion, plain_version}}
use Rattle.argus_objects.specs.{Object.{versions_newest_first, holders, writers}, Rules.{all_above, are_up_to}}
use Rattle.argus_objects.specs.{Rules.{is_ascending, may_write, visible_content}, CellChanges.IsChangedOnTop}
use Rattle.argus_objects.specs.CellChanges.{has_version, newest_content, version_inherited, versions_inherited}
use Rattle.argus_objects.proofs.{Ascending.above_up_to, Chains.all_imp}
use Rattle.argus_objects.proofs.Stacks.{all_holders, all_lower, all_versions, has_newest, lower_newest, newest_push}
use Rattle.argus_objects.proofs.Stacks.{newest_set, same_id, version_pushed, version_set, without_lower}

-- the newest version and those below it
pub newest_top : (vs : List Version) (k : ℕ) (d : Version) → k + 1 ≡ length vs
    → versions_newest_first vs ≡ plain_version (get_or vs k d) ∷ versions_newest_first (take k vs)
newest_top vs k d last =
    grind (arith, nat_tests, take_all (k + 1) vs, take_more vs k d, newest_push (take k vs) (get_or vs k d))

pub content_on_top : (base : Option PlainContent) (vs : List Version) (k : ℕ) (d : Version) → k + 1 ≡ length vs
    → newest_content base (versions_newest_first vs) ≡ plain_option (get_or vs k d).content
content_on_top base vs k d last = ap (newest_content base) (newest_top vs k d last)

-- the newest version, which is the action's, changed in place, or as it was
module _ {R : Type 0} (answer_of : R → PlainAnswer) (change : PlainChange) (base : Option PlainContent) (a : ActionId)
    (vs : List Version) (k : ℕ) (d old v : Version) (last : k + 1 ≡ length vs) (asc : is_ascending (writers vs) ≡ true)
    (found : d ≡ get_or vs k d) (mine : d.holder.0 ≡ a.0) (item : old ≡ get_or vs k old) (same : v.holder ≡ old.holder)
  where
    before : old ≡ get_or vs k d
    before = item ∙ get_or_default vs k old d (omega arith)

    held : old.holder.0 ≡ a.0
    held = ap (λ (w : Version). w.holder.0) (before ∙ sym found) ∙ mine

    pub changed_in_place : (r : Result R OutOfMemory)
        → IfOk r (λ answer. (plain_option v.content, answer_of answer) ≡ outcome change (plain_option old.content))
        → OnErr r (plain_option v.content ≡ plain_option old.content)
        → IsChangedOnTop answer_of a change base (versions_newest_first vs) (versions_newest_first (set vs k v)) r
    changed_in_place (Ok answer) ok err = grind (arith, nat_tests, content_on_top, before, version_set, same_id, held)
    changed_in_place (Err refused) ok err = grind (arith, nat_tests, newest_set, before, newest_top)

-- a changed copy of what is on top, pushed
pub changed_copy : {R : Type 0} (answer_of : R → PlainAnswer) (change : PlainChange) (base : Option PlainContent)
    (a : ActionId) (vs vs' : List Version) (v : Version) (answer : R) (top : Option PlainContent)
    → vs' ≡ vs ++ v ∷ [] → v.holder ≡ a → list_all (λ x. ltb x.0 a.0) (holders (versions_newest_first vs)) ≡ true
    → (plain_option v.content, answer_of answer) ≡ outcome change top
    → top ≡ newest_content base (versions_newest_first vs)
    → IsChangedOnTop answer_of a change base (versions_newest_first vs) (versions_newest_first vs') (Ok answer)
changed_copy answer_of change base a vs vs' v answer top pushed mine low made seen =
    grind (arith, nat_tests, version_pushed)

-- an action that may read sees what is on top
pub seen_on_top : (t : Tree) (a : ActionId) (base : Option PlainContent) (vs : List PlainVersion)
    → all_above t a (holders vs) ≡ true → newest_content base vs ≡ visible_content t a base vs
seen_on_top t a base vs up = grind (arith, nat_tests)

pub seen_by_writer : (t : Tree) (a : ActionId) (o : Object) → may_write t o a ≡ true
    → newest_content o.base o.versions ≡ visible_content t a o.base o.versions
seen_by_writer t a o up = grind (arith, nat_tests)

-- no holder is past an action that may read, nor past one that may write
pub holders_up_to : (t : Tree) (a : ActionId) (vs : List Version)
    → all_above t a (holders (versions_newest_first vs)) ≡ true → are_up_to a (writers vs) ≡ true
holders_up_to t a vs up = grind (arith, nat_tests, above_up_to, all_holders)

pub writers_up_to : (t : Tree) (a : ActionId) (readers : List ActionId) (vs : List Version)
    → (all_above t a (holders (versions_newest_first vs)) && all_above t a readers) ≡ true
    → are_up_to a (writers vs) ≡ true
writers_up_to t a readers vs up = grind (arith, nat_tests, holders_up_to)

-- what holds in any case holds on Ok
pub on_ok : {R : Type 0} (r : Result R OutOfMemory) (P : Type 0) → P → OnOk r P
on_ok r P p = grind (arith, nat_tests)

-- lower holders are all other actions
none_of_lower : (a : ActionId) (vs : List PlainVersion) → list_all (λ x. ltb x.0 a.0) (holders vs) ≡ true
    → has_version a vs ≡ false
none_of_lower a [] low = refl
none_of_lower a (v ∷ vs) low = grind (arith, nat_tests, none_of_lower a vs)

-- where no holder is past the action, the newest decides whether it has a version
pub newest_decides : (a : ActionId) (vs : List Version) (k : ℕ) (d : Version) → k + 1 ≡ length vs
    → is_ascending (writers vs) ≡ true → are_up_to a (writers vs) ≡ true
    → list_any (λ (v : Version). eqb v.holder.0 a.0) vs ≡ eqb (get_or vs k d).holder.0 a.0
newest_decides a vs k d last asc up = grind (arith, nat_tests, has_newest, newest_top, none_of_lower, all_lower)

-- of holders in increasing number the last decides whether all are lower
pub last_decides : (p : ActionId) (vs : List Version) (k : ℕ) (d : Version) → is_ascending (writers vs) ≡ true
    → k < length vs
    → list_all (λ (v : Version). ltb v.holder.0 p.0) (take (k + 1) vs) ≡ ltb (get_or vs k d).holder.0 p.0
last_decides p vs k d asc below =
    let last = take_more vs k d below in
    let split = list_all-append (λ (v : Version). ltb v.holder.0 p.0) (take k vs) (get_or vs k d ∷ []) in
    let same = all_versions (λ x. ltb x.0 (get_or vs k d).holder.0) (take k vs) in
    let low = lower_newest vs k d asc below in
    let more = all_imp (λ (v : Version). ltb v.holder.0 (get_or vs k d).holder.0) (λ
    (v : Version). ltb v.holder.0 p.0) in
    grind (arith, nat_tests, last, split, same, low, more)

-- none of lower holders is s, so nothing is handed over
handed_lower : (s p : ActionId) (vs : List PlainVersion) → list_all (λ x. ltb x.0 s.0) (holders vs) ≡ true
    → map (version_inherited s p) vs ≡ vs
handed_lower s p [] low = refl
handed_lower s p (v ∷ vs) low = grind (arith, nat_tests, handed_lower s p vs)

-- the newest version, which is that of s, is the parent's, where all others stand before the parent
pub handed_in_place : (s p : ActionId) (vs : List Version) (k : ℕ) (d v : Version) → k + 1 ≡ length vs
    → (get_or vs k d).holder.0 ≡ s.0 → p.0 < s.0 → list_all (λ (w : Version). ltb w.holder.0 p.0) (take k vs) ≡ true
    → v.holder ≡ p → v.content ≡ (get_or vs k d).content
    → versions_newest_first (set vs k v) ≡ versions_inherited s p (versions_newest_first vs)
handed_in_place s p vs k d v last here before low holder_is content_is =
    grind (arith, nat_tests, all_versions, all_imp, without_lower, newest_set, newest_top, handed_lower)
