-- What contracts see of a `Cell` and of a `Version`.
use Rattle.std.specs.{Prelude.{◌≡◌, ◌-◌, ℕ, List, map, reverse, refl, Option, vec_len}, Vec.vec_capacity}
use Rattle.std.specs.declared.vec.Vec.{Vec}
use Rattle.std.specs.Coded.{Coded, code_by, coded×, coded_ℕ, coded_list, coded_option}
use Rattle.argus_actions.specs.declared.action_id.ActionId.{ActionId}
use Rattle.argus_contents.specs.{Content.{PlainContent, plain_option}, ContentCode.content_coded}
use Rattle.argus_objects.specs.declared.version.Version.{Version}

-- a version: whose it is, and the content that the object has for its holder
pub record PlainVersion : Type 0 where
  pub holder : ActionId
  pub content : Option PlainContent

-- what a version says
abbrev pub plain_version : Version → PlainVersion
plain_version v = record { holder = v.holder; content = plain_option v.content }

-- the versions of a stack, from descendant to ancestor; the program keeps the newest last
abbrev pub versions_newest_first : List Version → List PlainVersion
versions_newest_first versions = reverse (map plain_version versions)

-- the same of a cell's versions
abbrev pub stack_of : {Z : Type 0} → Vec Version Z → List PlainVersion
stack_of versions = versions_newest_first versions.items

-- room for how many more versions there is
abbrev pub spare_room : {Z : Type 0} → Vec Version Z → ℕ
spare_room versions = vec_capacity versions - vec_len versions

-- the holders of a stack's versions, from ancestor to descendant
abbrev pub writers : List Version → List ActionId
writers versions = map (λ v. v.holder) versions

-- the base, the readers in increasing number, the versions from descendant to ancestor, and room
-- for how many more readers and versions there is
pub record Object : Type 0 where
  pub base : Option PlainContent
  pub readers : List ActionId
  pub versions : List PlainVersion
  pub reader_room : ℕ
  pub version_room : ℕ

-- the holders of versions, from descendant to ancestor
abbrev pub holders : List PlainVersion → List ActionId
holders versions = map (λ v. v.holder) versions

-- the same base, readers and versions, whatever the room
pub record SameLocks (old new : Object) : Type 0 where
  pub base : new.base ≡ old.base
  pub readers : new.readers ≡ old.readers
  pub versions : new.versions ≡ old.versions

-- actions are stored as their numbers
abbrev pub action_coded : Coded ActionId
action_coded = code_by ℕ coded_ℕ (λ a. a.0) (λ n. record { 0 = n }) (λ _. refl)

-- a version is stored as its holder and its content
abbrev pub version_coded : Coded PlainVersion
version_coded =
    code_by (ActionId × Option PlainContent) (coded× action_coded (coded_option content_coded))
    (λ v. (v.holder, v.content)) (λ p. record { holder = p.0; content = p.1 }) (λ _. refl)

-- an object is stored as its base, readers, versions and rooms
abbrev pub object_coded : Coded Object
object_coded =
    code_by (Option PlainContent × (List ActionId × (List PlainVersion × (ℕ × ℕ))))
    (coded× (coded_option content_coded) (coded× (coded_list action_coded)
    (coded× (coded_list version_coded) (coded× coded_ℕ coded_ℕ))))
    (λ o. (o.base, (o.readers, (o.versions, (o.reader_room, o.version_room)))))
    (λ p. record {
      base = p.0;
      readers = p.1.0;
      versions = p.1.1.0;
      reader_room = p.1.1.1.0;
      version_room = p.1.1.1.1;
    }) (λ _. refl)
