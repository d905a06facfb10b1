-- Parents, creators and ancestors (Argus Reference Manual 1987, actions; Moss 1981).
use Rattle.std.specs.{List.list_any, Prelude.{Bool, List, [], if◌then◌else◌, ℕ, ◌==◌, ◌∷◌}}
use Rattle.argus_model.specs.Event.{Aborted, Accessed, Began, Committed, origin_begun_by, origin_parent}
use Rattle.argus_model.specs.{History.{History, Opened, next_action, ◌▹◌}, Numbers.contains}

-- the parent of an action; a topaction, nested or not, has the base
abbrev pub parent : {V : Type 0} → History V → ℕ → ℕ
parent (Opened n) a = 0
parent (Began from ▹ older) a = if a == next_action older then origin_parent from else parent older
    a
parent (Committed b ▹ older) a = parent older a
parent (Aborted bs ▹ older) a = parent older a
parent (Accessed b o v ▹ older) a = parent older a

-- the creator of an action; for a topaction that no action began it is the base
abbrev pub begun_by : {V : Type 0} → History V → ℕ → ℕ
begun_by (Opened n) a = 0
begun_by (Began from ▹ older) a = if a == next_action older then origin_begun_by from else begun_by
    older a
begun_by (Committed b ▹ older) a = begun_by older a
begun_by (Aborted bs ▹ older) a = begun_by older a
begun_by (Accessed b o v ▹ older) a = begun_by older a

-- an action and the base
abbrev pub to_base : ℕ → List ℕ
to_base a = if a == 0 then 0 ∷ [] else a ∷ 0 ∷ []

-- an action, its parent, the parent's parent and so on, down to the base
abbrev pub lineage : {V : Type 0} → History V → ℕ → List ℕ
lineage (Opened n) a = to_base a
lineage (Began from ▹ older) a =
    if a == next_action older then a ∷ lineage older (origin_parent from) else lineage older a
lineage (Committed b ▹ older) a = lineage older a
lineage (Aborted bs ▹ older) a = lineage older a
lineage (Accessed b o v ▹ older) a = lineage older a

-- x is a, or the parent of an ancestor of a: an action is its own ancestor, and a creator isn't one
abbrev pub is_ancestor : {V : Type 0} → History V → ℕ → ℕ → Bool
is_ancestor h x a = contains (lineage h a) x

-- one of these is an ancestor of a
abbrev pub is_under : {V : Type 0} → History V → List ℕ → ℕ → Bool
is_under h xs a = list_any (λ x. is_ancestor h x a) xs
