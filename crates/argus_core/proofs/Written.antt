-- What an action has written, as the walk over its list finds it.
use Rattle.std.proofs.Common.{List, Option, [], ap, cond, get_or, length, map, refl, take, ℕ, ◌++◌, ◌+◌, ◌<◌, ◌∙◌, ◌∷◌}
use Rattle.std.proofs.{Common.{◌≡◌, arith}, lemmas.{List.{map-append, take_more}, Bool.Decides.nat_tests}}
use Rattle.std.specs.{Option.{is_some, option_map}, Prelude.slice_index_or}
use Rattle.argus_actions.specs.declared.action_id.ActionId.{ActionId}
use Rattle.argus_contents.specs.{Content.{PlainContent, plain_option}, declared.content.Content.Content}
use Rattle.argus_contents.specs.{declared.obj_id.ObjId.ObjId, Effect.plain_effect}
use Rattle.argus_core.specs.{Effect.{version_in, written_in}, declared.engine.atomic_object.AtomicObject.AtomicObject}
use Rattle.argus_objects.specs.{CellChanges.{has_version, version_of}, Object.PlainVersion}

-- an action has a version where there is one of it
pub has_where_found : (a : ActionId) (vs : List PlainVersion) → is_some (version_of a vs) ≡ has_version a vs
has_where_found a [] = refl
has_where_found a (v ∷ vs) = grind (arith, nat_tests, has_where_found a vs)

-- a number with a content, as the program and as the model have it
abbrev numbered : ℕ → Option Content → ObjId × Option Content
numbered n content = let id : ObjId = record { 0 = n } in (id, content)

abbrev with_plain : ℕ → Option PlainContent → ℕ × Option PlainContent
with_plain n content = (n, content)

abbrev told : ObjId × Option Content → ℕ × Option PlainContent
told pair = (pair.0.0, plain_option pair.1)

module _ (a : ActionId) (objects : List AtomicObject) (d : AtomicObject) where
  written_last : (list : List ObjId) (o : ObjId)
      → written_in a objects d (list ++ o ∷ [])
      ≡ written_in a objects d list ++ cond (has_version a (slice_index_or objects o.0 d).cell.versions) (o.0 ∷ []) []
  written_last [] o = refl
  written_last (x ∷ list) o = grind (arith, nat_tests, written_last list o)

  pub written_more : (list : List ObjId) (i : ℕ) (e : ObjId) → i < length list
      → written_in a objects d (take (i + 1) list)
      ≡ written_in a objects d (take i list)
      ++ cond (has_version a (slice_index_or objects (get_or list i e).0 d).cell.versions) ((get_or list i e).0 ∷ []) []
  written_more list i e low =
      ap (written_in a objects d) (take_more list i e low) ∙ written_last (take i list) (get_or list i e)

  -- one more object with its content
  pub copied_more : (numbers : List ℕ) (i : ℕ) (items items' : List (ObjId × Option Content)) (content : Option Content)
      → i < length numbers → plain_effect items ≡ map (λ o. (o, version_in a objects d o)) (take i numbers)
      → items' ≡ items ++ numbered (get_or numbers i 0) content ∷ []
      → plain_option content ≡ version_in a objects d (get_or numbers i 0)
      → plain_effect items' ≡ map (λ o. (o, version_in a objects d o)) (take (i + 1) numbers)
  copied_more numbers i items items' content low e is same =
      grind (arith, nat_tests, map-append told items, take_more numbers i 0 low, map-append)

-- there is one where there is one of it
pub some_mapped : {X Y : Type 0} (f : X → Y) (q : Option X) → is_some (option_map f q) ≡ is_some q
some_mapped f q = grind (arith, nat_tests)
