-- Before the first line of a script.
use Rattle.std.proofs.Common.{◌≡◌, ℕ, ◌-◌, List, [], refl, sym, ◌∙◌, ap, subst, arith}
use Rattle.argus_language.specs.{Fault.position_at, Objects.{PlainObjects, no_objects}, Script.Declares}
use Rattle.argus_language.specs.{Reading.{IsSound, levels_of, lines_so_far}, declared.open_block.OpenBlock.OpenBlock}
use Rattle.argus_language.specs.declared.step.Step.{Step}
use Rattle.argus_language.proofs.Faults.{ToldOf}

pub start-position : (n : ℕ) (blocks : List OpenBlock) → blocks ≡ []
    → position_at 0 0 [] ≡ position_at 0 (n - n) (levels_of blocks)
start-position n blocks e = grind arith

none-declared : Declares [] no_objects
none-declared = record { names = refl; shapes = refl; makeable = λ k d h. absurd (omega arith) }

pub start-declares : (os : PlainObjects) → os ≡ no_objects → Declares [] os
start-declares os e = subst (Declares []) (sym e) none-declared

pub start-told : (os : PlainObjects) (blocks : List OpenBlock) (steps : List Step) → blocks ≡ [] → steps ≡ []
    → ToldOf [] os (lines_so_far blocks steps)
start-told os blocks steps e f = λ more. sym (ap (λ bs. lines_so_far bs steps) e ∙ ap (lines_so_far []) f)

pub start-sound : (blocks : List OpenBlock) (steps : List Step) → blocks ≡ [] → steps ≡ [] → IsSound blocks steps
start-sound blocks steps e f =
    subst (λ bs. IsSound bs steps) (sym e) (subst (IsSound []) (sym f) (record { began = tt; stand = tt }))
