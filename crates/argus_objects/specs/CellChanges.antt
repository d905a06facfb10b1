-- What each call leaves of the readers and of the versions.
use Rattle.std.specs.Prelude.{Bool, not, ◌&&◌, ◌||◌, ◌==◌, nat_lt, if◌then◌else◌, List, [], ◌∷◌, map, Option, Some}
use Rattle.std.specs.{Prelude.{None, IfOk, OnErr, OnOk, Result, ◌≡◌}, List.{list_any, filter}}
use Rattle.argus_actions.specs.{declared.action_id.ActionId.ActionId, Tree.Tree}
use Rattle.argus_contents.specs.{Answer.PlainAnswer, Content.PlainContent, Change.{PlainChange, Outcome, outcome}}
use Rattle.argus_memory.specs.declared.out_of_memory.OutOfMemory.{OutOfMemory}
use Rattle.argus_objects.specs.{Object.{Object, PlainVersion}, Rules.visible_content}

-- a is one of these readers
abbrev pub is_reader : ActionId → List ActionId → Bool
is_reader a readers = list_any (λ x. x.0 == a.0) readers

-- a has one of these versions
abbrev pub has_version : ActionId → List PlainVersion → Bool
has_version a versions = list_any (λ v. v.holder.0 == a.0) versions

-- the action among the readers, in its place by number
abbrev pub with_reader : ActionId → List ActionId → List ActionId
with_reader a [] = a ∷ []
with_reader a (x ∷ xs) =
    if nat_lt a.0 x.0 then a ∷ x ∷ xs else (if x.0 == a.0 then x ∷ xs else x ∷ with_reader a xs)

-- these readers without a
abbrev pub without_reader : ActionId → List ActionId → List ActionId
without_reader a readers = filter (λ x. not (x.0 == a.0)) readers

-- the parent in the place of s, if s is a reader
abbrev pub readers_inherited : ActionId → ActionId → List ActionId → List ActionId
readers_inherited s parent readers =
    if is_reader s readers then with_reader parent (without_reader s readers) else readers

-- the content of the action's version, if it has one
abbrev pub version_of : ActionId → List PlainVersion → Option (Option PlainContent)
version_of a [] = None
version_of a (v ∷ older) = if v.holder.0 == a.0 then Some v.content else version_of a older

-- these versions without that of a
abbrev pub without_version : ActionId → List PlainVersion → List PlainVersion
without_version a versions = filter (λ v. not (v.holder.0 == a.0)) versions

-- the action's one version, on top, with this content
abbrev pub with_version : ActionId → Option PlainContent → List PlainVersion → List PlainVersion
with_version a content versions =
    record { holder = a; content = content } ∷ without_version a versions

-- a version of s is the parent's now
abbrev pub version_inherited : ActionId → ActionId → PlainVersion → PlainVersion
version_inherited s parent v = if v.holder.0 == s.0 then record {
  holder = parent;
  content
      = v.content;
} else v

-- the version of s as the parent's, in place of the one that the parent had, if s has one
abbrev pub versions_inherited : ActionId → ActionId → List PlainVersion → List PlainVersion
versions_inherited s parent versions =
    if has_version s versions then map (version_inherited s parent)
    (without_version parent versions) else
    versions

-- x is among the holders after s has handed what it has to its parent
abbrev pub is_holder_inherited : ActionId → ActionId → ActionId → Bool → Bool → Bool
is_holder_inherited s parent x has s_has = (not (x.0 == s.0) && has) || (x.0 == parent.0 && s_has)

-- the content of the newest version, or the base
abbrev pub newest_content : Option PlainContent → List PlainVersion → Option PlainContent
newest_content base [] = base
newest_content base (v ∷ older) = v.content

-- what a change does to the content of the newest version, or to the base
abbrev pub changed_top : PlainChange → Option PlainContent → List PlainVersion → Outcome
changed_top change base versions = outcome change (newest_content base versions)

-- a has the version that the change makes of the newest content, and the answer is the change's; or
-- there was no memory, and the versions are as before
pub record IsChangedOnTop {A : Type 0} (says : A → PlainAnswer) (a : ActionId) (change : PlainChange)
    (base : Option PlainContent) (old new : List PlainVersion)
    (result : Result A OutOfMemory) : Type 0 where
  pub versions : OnOk result (new ≡ with_version a (changed_top change base old).0 old)
  pub answer : IfOk result (λ answer. says answer ≡ (changed_top change base old).1)
  pub err : OnErr result (new ≡ old)

-- what a change does to the content that the action sees
abbrev pub changed : Tree → ActionId → PlainChange → Object → Outcome
changed tree a change object = outcome change (visible_content tree a object.base object.versions)
