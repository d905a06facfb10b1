-- The holders after a subaction has handed what it has to its parent.
use Rattle.std.proofs.Common.{◌≡◌, ◌≢◌, true, not, eqb, ◌&&◌, ◌||◌, List, [], ◌∷◌, map, refl, sym, arith}
use Rattle.std.proofs.{Math.Bool.and-false, lemmas.Bool.Decides.nat_tests}
use Rattle.argus_actions.specs.declared.action_id.ActionId.{ActionId}
use Rattle.argus_objects.specs.{Object.PlainVersion, CellChanges.{versions_inherited, is_reader, has_version}}
use Rattle.argus_objects.specs.CellChanges.{version_of, with_reader, without_reader, without_version, version_inherited}
use Rattle.argus_objects.specs.CellChanges.{is_holder_inherited, readers_inherited}

-- a reader put in its place
pub reader_with : (a x : ActionId) (xs : List ActionId)
    → is_reader x (with_reader a xs) ≡ (eqb a.0 x.0 || is_reader x xs)
reader_with a x [] = refl
reader_with a x (y ∷ ys) = grind (arith, nat_tests, reader_with a x ys)

-- and one taken out
pub reader_without : (s x : ActionId) (xs : List ActionId)
    → is_reader x (without_reader s xs) ≡ (not (eqb x.0 s.0) && is_reader x xs)
reader_without s x [] = sym (and-false (not (eqb x.0 s.0)))
reader_without s x (y ∷ ys) = grind (arith, nat_tests, reader_without s x ys)

pub reader_handed : (s p x : ActionId) (xs : List ActionId)
    → is_reader x (readers_inherited s p xs) ≡ is_holder_inherited s p x (is_reader x xs) (is_reader s xs)
reader_handed s p x xs = grind (arith, nat_tests, reader_with, reader_without)

-- versions whose holder s is the parent now
version_handed : (s p x : ActionId) → s.0 ≢ p.0 → (vs : List PlainVersion)
    → has_version x (map (version_inherited s p) vs) ≡ is_holder_inherited s p x (has_version x vs) (has_version s vs)
version_handed s p x other [] = grind (arith, nat_tests)
version_handed s p x other (v ∷ vs) = grind (arith, nat_tests, version_handed s p x other vs)

version_without : (p x : ActionId) (vs : List PlainVersion)
    → has_version x (without_version p vs) ≡ (not (eqb x.0 p.0) && has_version x vs)
version_without p x [] = sym (and-false (not (eqb x.0 p.0)))
version_without p x (v ∷ vs) = grind (arith, nat_tests, version_without p x vs)

pub versions_handed : (s p x : ActionId) → s.0 ≢ p.0 → (vs : List PlainVersion)
    → has_version x (versions_inherited s p vs) ≡ is_holder_inherited s p x (has_version x vs) (has_version s vs)
versions_handed s p x other vs = grind (arith, nat_tests, version_handed, version_without)

-- the parent's content is what s had
handed_content : (s p : ActionId) → s.0 ≢ p.0 → (vs : List PlainVersion)
    → version_of p (map (version_inherited s p) (without_version p vs)) ≡ version_of s vs
handed_content s p other [] = refl
handed_content s p other (v ∷ vs) = grind (arith, nat_tests, handed_content s p other vs)

pub content_handed : (s p : ActionId) → s.0 ≢ p.0 → (vs : List PlainVersion) → has_version s vs ≡ true
    → version_of p (versions_inherited s p vs) ≡ version_of s vs
content_handed s p other vs has = grind (arith, nat_tests, handed_content)

other_handed : (s p x : ActionId) → x.0 ≢ s.0 → x.0 ≢ p.0 → (vs : List PlainVersion)
    → version_of x (map (version_inherited s p) (without_version p vs)) ≡ version_of x vs
other_handed s p x xs xp [] = refl
other_handed s p x xs xp (v ∷ vs) = grind (arith, nat_tests, other_handed s p x xs xp vs)

pub content_stays : (s p x : ActionId) → x.0 ≢ s.0 → x.0 ≢ p.0 → (vs : List PlainVersion)
    → version_of x (versions_inherited s p vs) ≡ version_of x vs
content_stays s p x xs xp vs = grind (arith, nat_tests, other_handed)
