-- What contracts see of a list of objects, and how it changes.
use Rattle.std.specs.{Prelude.{ℕ, ◌==◌, if◌then◌else◌, List, [], ◌∷◌, ◌++◌}, List.list_any}
use Rattle.argus_contents.specs.declared.obj_id.ObjId.{ObjId}

-- the objects that were noted, and how many more fit
pub record NotedObjects : Type 0 where
  pub objects : List ObjId
  pub room : ℕ

-- no objects, and room for none
abbrev pub no_objects : NotedObjects
no_objects = record { objects = []; room = 0 }

-- an object noted at the end of a list, unless it is there
abbrev pub noted : ObjId → List ObjId → List ObjId
noted o list = if list_any (λ x. x.0 == o.0) list then list else list ++ o ∷ []

-- these objects noted, in their order
abbrev pub passed : List ObjId → List ObjId → List ObjId
passed [] list = list
passed (o ∷ os) list = passed os (noted o list)
