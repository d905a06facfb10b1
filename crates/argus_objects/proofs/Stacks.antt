-- Versions as the program keeps them, the newest last, and as contracts see them.
use Rattle.std.proofs.Common.{◌≡◌, ◌≢◌, ℕ, ◌+◌, ◌<◌, ◌≤◌, Bool, true, false, not, cond, eqb, ltb, leb, ◌&&◌, ◌||◌, List}
use Rattle.std.proofs.Common.{[], ◌∷◌, ◌++◌, map, filter, reverse, length, take, drop, get_or, set, Option, Some, None}
use Rattle.std.proofs.{Common.{refl, sym, ◌∙◌, ap, arith, zero, suc, subst}, lemmas.Bool.{eq-eqb, cond-true}}
use Rattle.std.proofs.lemmas.{Bool.Decides.nat_tests, List.{take_more, drop_more, append_assoc, append-nil}}
use Rattle.std.proofs.lemmas.List.{take-append-drop, reverse-append, map-append, get_or-map, get_or_at, set_at}
use Rattle.std.proofs.lemmas.List.{length-map, length-take-le, drop_all, take_all, Elements.filter-append}
use Rattle.std.proofs.lemmas.{List.{Folds.{list_any-append, list_all-map}, take-map}, Grind.reverse_onto, Simd.map-map}
use Rattle.std.specs.List.{list_all, list_any}
use Rattle.argus_actions.specs.{declared.action_id.ActionId.ActionId, Tree.Tree}
use Rattle.argus_contents.specs.Content.{PlainContent}
use Rattle.argus_objects.specs.{declared.version.Version.Version, Object.{PlainVersion, plain_version}}
use Rattle.argus_objects.specs.{Object.{versions_newest_first, holders, writers}, Rules.{are_related, are_up_to}}
use Rattle.argus_objects.specs.{Rules.{is_ascending, is_chain, is_related, is_strictly_above}, CellChanges.has_version}
use Rattle.argus_objects.specs.CellChanges.{version_inherited, version_of, with_version, without_version}
use Rattle.argus_objects.proofs.{Chains.{renamed, all_imp}, Ascending.{list_all_reverse, lower_before}}

pub newest_push : (vs : List Version) (v : Version) → versions_newest_first (vs ++ v ∷ []) ≡ plain_version v
    ∷ versions_newest_first vs
newest_push vs v = grind (arith, nat_tests, map-append, reverse-append)

-- an action is its number
pub same_id : (x y : ActionId) → x.0 ≡ y.0 → x ≡ y
same_id x y e = ap (λ n. let z : ActionId = record { 0 = n } in z) e

-- a list turned round, seen element by element
pub map_reverse : {X Y : Type 0} (f : X → Y) (xs : List X) → map f (reverse xs) ≡ reverse (map f xs)
map_reverse f [] = refl
map_reverse f (x ∷ xs) = grind (arith, nat_tests, reverse_onto, map-append, map_reverse f xs)

-- the holders from descendant to ancestor are those from ancestor to descendant, turned round
pub holders_newest : (vs : List Version) → holders (versions_newest_first vs) ≡ reverse (writers vs)
holders_newest vs = grind (arith, nat_tests, map_reverse, map-map)

pub all_holders : (p : ActionId → Bool) (vs : List Version)
    → list_all p (holders (versions_newest_first vs)) ≡ list_all p (writers vs)
all_holders p vs = ap (list_all p) (holders_newest vs) ∙ list_all_reverse p (writers vs)

pub all_versions : (p : ActionId → Bool) (vs : List Version)
    → list_all p (holders (versions_newest_first vs)) ≡ list_all (λ (v : Version). p v.holder) vs
all_versions p vs = all_holders p vs ∙ list_all-map p (λ (v : Version). v.holder) vs

filter_end : {X : Type 0} (b : Bool) (ys : List X) (x : X)
    → reverse ys ++ cond b (x ∷ []) [] ≡ reverse (cond b (x ∷ ys) ys)
filter_end true ys x = sym (reverse_onto ys x [])
filter_end false ys x = append-nil (reverse ys)

filter_reverse : {X : Type 0} (p : X → Bool) (xs : List X) → filter p (reverse xs) ≡ reverse (filter p xs)
filter_reverse p [] = refl
filter_reverse p (x ∷ xs) = grind (arith, nat_tests, reverse_onto, filter-append, filter_end, filter_reverse p xs)

filter_map : {X Y : Type 0} (p : Y → Bool) (f : X → Y) (xs : List X)
    → filter p (map f xs) ≡ map f (filter (λ x. p (f x)) xs)
filter_map p f [] = refl
filter_map p f (x ∷ xs) = grind (arith, nat_tests, filter_map p f xs)

-- a test of the holders filters the same versions
pub newest_filter : (p : ActionId → Bool) (vs : List Version)
    → filter (λ (v : PlainVersion). p v.holder) (versions_newest_first vs)
    ≡ versions_newest_first (filter (λ (v : Version). p v.holder) vs)
newest_filter p vs = grind (arith, nat_tests, filter_reverse, filter_map)

pub holders_filter : (p : ActionId → Bool) (vs : List PlainVersion)
    → holders (filter (λ v. p v.holder) vs) ≡ filter p (holders vs)
holders_filter p vs = sym (filter_map p (λ (v : PlainVersion). v.holder) vs)

pub holders_handed : (s parent : ActionId) (vs : List PlainVersion)
    → holders (map (version_inherited s parent) vs) ≡ map (renamed s parent) (holders vs)
holders_handed s parent [] = refl
holders_handed s parent (v ∷ vs) = grind (arith, nat_tests, holders_handed s parent vs)

any_reverse : {X : Type 0} (p : X → Bool) (xs : List X) → list_any p (reverse xs) ≡ list_any p xs
any_reverse p [] = refl
any_reverse p (x ∷ xs) = grind (arith, nat_tests, reverse_onto, list_any-append, any_reverse p xs)

pub has_newest : (a : ActionId) (vs : List Version) → has_version a (versions_newest_first vs)
    ≡ list_any (λ (v : Version). eqb v.holder.0 a.0) vs
has_newest a vs = any_reverse (λ (v : PlainVersion). eqb v.holder.0 a.0) (map plain_version vs) ∙ any_map vs
  where
    any_map : (ws : List Version) → list_any (λ (v : PlainVersion). eqb v.holder.0 a.0) (map plain_version ws)
        ≡ list_any (λ (v : Version). eqb v.holder.0 a.0) ws
    any_map [] = refl
    any_map (w ∷ ws) = ap (λ b. eqb w.holder.0 a.0 || b) (any_map ws)

pub newest_append : (xs ys : List Version) → versions_newest_first (xs ++ ys) ≡ versions_newest_first ys
    ++ versions_newest_first xs
newest_append xs ys = grind (arith, nat_tests, map-append, reverse-append)

pub newest_split : (vs : List Version) (k : ℕ) (d : Version) → k < length vs
    → versions_newest_first vs ≡ versions_newest_first (drop (k + 1) vs) ++ plain_version (get_or vs k d)
    ∷ versions_newest_first (take k vs)
newest_split vs k d below =
    ap versions_newest_first (sym (take-append-drop (k + 1) vs))
    ∙ (newest_append (take (k + 1) vs) (drop (k + 1) vs)
    ∙ ap (λ ws. versions_newest_first (drop (k + 1) vs) ++ ws) (ap versions_newest_first (take_more vs k d below)
    ∙ newest_push (take k vs) (get_or vs k d)))

pub version_of_none : (a : ActionId) (vs : List PlainVersion) → has_version a vs ≡ false → version_of a vs ≡ None
version_of_none a [] lacks = refl
version_of_none a (v ∷ vs) lacks = grind (arith, nat_tests, version_of_none a vs)

version_of_past : (a : ActionId) (xs ys : List PlainVersion) → has_version a xs ≡ false
    → version_of a (xs ++ ys) ≡ version_of a ys
version_of_past a [] ys lacks = refl
version_of_past a (v ∷ vs) ys lacks = grind (arith, nat_tests, version_of_past a vs ys)

pub without_none : (a : ActionId) (vs : List PlainVersion) → has_version a vs ≡ false → without_version a vs ≡ vs
without_none a [] lacks = refl
without_none a (v ∷ vs) lacks = grind (arith, nat_tests, without_none a vs)

-- lower holders are all other actions
pub without_lower : (a : ActionId) (vs : List PlainVersion) → list_all (λ x. ltb x.0 a.0) (holders vs) ≡ true
    → without_version a vs ≡ vs
without_lower a [] low = refl
without_lower a (v ∷ vs) low = grind (arith, nat_tests, without_lower a vs)

-- those below the place have lower holders
pub lower_newest : (vs : List Version) (k : ℕ) (d : Version) → is_ascending (writers vs) ≡ true → k < length vs
    → list_all (λ x. ltb x.0 (get_or vs k d).holder.0) (holders (versions_newest_first (take k vs))) ≡ true
lower_newest vs k d asc below =
    all_holders (λ x. ltb x.0 (get_or vs k d).holder.0) (take k vs)
    ∙ rw (← take-map (λ (v : Version). v.holder) k vs, ← get_or-map (λ (v : Version). v.holder) vs k d d.holder below)
    (lower_before (writers vs) k d.holder asc (rw (length-map vs (λ (v : Version). v.holder)) below))

-- the version at a place is the action's, and none above it
module _ (a : ActionId) (vs : List Version) (k : ℕ) (d : Version) (below : k < length vs)
    (asc : is_ascending (writers vs) ≡ true)
    (above : has_version a (versions_newest_first (drop (k + 1) vs)) ≡ false) (here : (get_or vs k d).holder.0
    ≡ a.0) where
  pub version_here : Some (plain_version (get_or vs k d)).content ≡ version_of a (versions_newest_first vs)
  version_here =
      sym (ap (version_of a) (newest_split vs k d below)
      ∙ (version_of_past a (versions_newest_first (drop (k + 1) vs)) (plain_version (get_or vs k d)
      ∷ versions_newest_first (take k vs))
      above
      ∙ cond-true _ _ _ (eq-eqb (get_or vs k d).holder.0 a.0 here)))

  pub lower_here : without_version a (versions_newest_first (take k vs)) ≡ versions_newest_first (take k vs)
  lower_here = without_lower a (versions_newest_first (take k vs))
      (subst (λ (n : ℕ). list_all (λ (x : ActionId). ltb x.0 n) (holders (versions_newest_first (take k vs)))
      ≡ true) here
      (lower_newest vs k d asc below))

  pub removed_here : versions_newest_first (take k vs ++ drop (k + 1) vs) ≡ without_version a (versions_newest_first vs)
  removed_here =
      let whole = newest_append (take k vs) (drop (k + 1) vs) in
      let split = newest_split vs k d below in
      let kept = filter-append (λ (v : PlainVersion). not (eqb v.holder.0 a.0))
      (versions_newest_first (drop (k + 1) vs)) (plain_version (get_or vs k d) ∷ versions_newest_first (take k vs)) in
      let none = without_none a (versions_newest_first (drop (k + 1) vs)) above in
      grind (arith, nat_tests, whole, split, kept, none, lower_here)

-- the newest version given a new content
pub newest_set : (vs : List Version) (k : ℕ) (v : Version) → k + 1 ≡ length vs
    → versions_newest_first (set vs k v) ≡ plain_version v ∷ versions_newest_first (take k vs)
newest_set vs k v last =
    let below : k < length vs = omega arith in
    ap versions_newest_first (ap (λ ws. set ws k v) (sym (take-append-drop k vs)
    ∙ ap (λ ws. take k vs ++ ws) (drop_more vs k v below))
    ∙ (set_at (take k vs) (get_or vs k v) (drop (k + 1) vs) v k (length-take-le k vs (omega arith))
    ∙ ap (λ ws. take k vs ++ v ∷ ws) (drop_all (k + 1) vs (omega arith))))
    ∙ newest_push (take k vs) v

-- the action's version on top, given a new content, or pushed where its holder is past all others
pub version_set : (a : ActionId) (content : Option PlainContent) (vs : List Version) (k : ℕ) (d v : Version)
    → k + 1 ≡ length vs → is_ascending (writers vs) ≡ true
    → (get_or vs k d).holder.0 ≡ a.0 → v.holder ≡ a → (plain_version v).content ≡ content
    → versions_newest_first (set vs k v) ≡ with_version a content (versions_newest_first vs)
version_set a content vs k d v last asc here holder_is content_is =
    grind (arith, nat_tests, drop_all, newest_set vs, append-nil, removed_here a vs)

pub version_pushed : (a : ActionId) (vs : List Version) (v : Version) → v.holder ≡ a
    → list_all (λ x. ltb x.0 a.0) (holders (versions_newest_first vs)) ≡ true
    → versions_newest_first (vs ++ v ∷ []) ≡ with_version a (plain_version v).content (versions_newest_first vs)
version_pushed a vs v e low = grind (arith, nat_tests, newest_push, without_lower)

-- if no holder is past the action and the newest isn't it, all are lower
pub all_lower : (a : ActionId) (vs : List Version) (k : ℕ) (d : Version) → k + 1 ≡ length vs
    → is_ascending (writers vs) ≡ true → are_up_to a (writers vs) ≡ true → (get_or vs k d).holder.0 ≢ a.0
    → list_all (λ x. ltb x.0 a.0) (holders (versions_newest_first vs)) ≡ true
all_lower a vs k d last asc up other =
    let below : k < length vs = omega arith in
    let whole : take (k + 1) vs ≡ vs = take_all (k + 1) vs (omega arith) in
    let more = take_more vs k d below in
    let pushed = newest_push (take k vs) (get_or vs k d) in
    let up_to = all_holders (λ x. leb x.0 a.0) vs in
    let low = lower_newest vs k d asc below in
    let lower = all_imp (λ (x : ActionId). ltb x.0 (get_or vs k d).holder.0) (λ (x : ActionId). ltb x.0 a.0) in
    grind (arith, nat_tests, whole, more, pushed, up_to, low, lower)

-- versions handed over, from the front on
abbrev pub handed_to : ActionId → ActionId → List PlainVersion → ℕ → List PlainVersion
handed_to s p xs i = map (version_inherited s p) (take i xs) ++ drop i xs

map_set : (vs : List Version) (i : ℕ) (v : Version) → map plain_version (set vs i v)
    ≡ set (map plain_version vs) i (plain_version v)
map_set [] i v = refl
map_set (w ∷ vs) zero v = refl
map_set (w ∷ vs) (suc i) v = ap (λ ws. plain_version w ∷ ws) (map_set vs i v)

pub handed_more : (s p : ActionId) (xs : List PlainVersion) (now : List Version) (i : ℕ) (d v : Version) → i < length xs
    → length now ≡ length xs → map plain_version now ≡ handed_to s p xs i
    → plain_version v ≡ version_inherited s p (plain_version (get_or now i d))
    → map plain_version (set now i v) ≡ handed_to s p xs (i + 1)
handed_more s p xs now i d v below same so_far is =
    let many = length-map (take i xs) (version_inherited s p) in
    let front = length-take-le i xs in
    let rest = drop_more xs i (plain_version d) below in
    let read = get_or-map plain_version now i d (plain_version d) in
    let put = map_set now i v in
    let last = map-append (version_inherited s p) (take i xs) (get_or xs i (plain_version d) ∷ []) in
    let more = take_more xs i (plain_version d) below in
    grind (arith, nat_tests, many, front, rest, read, put, last, more, get_or_at, set_at, append_assoc)

pub none_lower : (a : ActionId) (vs : List Version) → length vs ≤ 0
    → list_all (λ x. ltb x.0 a.0) (holders (versions_newest_first vs)) ≡ true
none_lower a [] le = refl
none_lower a (v ∷ vs) le = absurd (omega arith)

-- a chain with one more on top
pub chain_push : (t : Tree) (vs older : List Version) (v : Version) → vs ≡ older ++ v ∷ []
    → is_chain t (holders (versions_newest_first vs)) ≡ (list_all (λ
    (w : Version). is_strictly_above t w.holder v.holder) older
    && is_chain t (holders (versions_newest_first older)))
chain_push t vs older v e = grind (arith, nat_tests, newest_push, all_versions)

-- who is related to all holders, whatever their order
pub related_versions : (t : Tree) (vs : List Version) (rs : List ActionId)
    → list_all (is_related t (holders (versions_newest_first vs))) rs
    ≡ list_all (λ (x : ActionId). list_all (λ (v : Version). are_related t x v.holder) vs) rs
related_versions t vs [] = refl
related_versions t vs (r ∷ rs) = grind (arith, nat_tests, all_versions, related_versions t vs rs)
