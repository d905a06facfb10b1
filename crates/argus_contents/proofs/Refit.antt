-- A low bound that was stored is the one that was meant, since it keeps the limits.
use Rattle.std.proofs.Common.{◌≡◌, ℤ, pos, negsuc, List, Some, Result, Ok, Err, IfOk, OnErr, ap, subst, sym, arith, w64}
use Rattle.std.proofs.{Common.{to_z, of_z}, lemmas.Int.{ints, to_z-of_z}}
use mir.Val.{SFits}
use Rattle.argus_memory.specs.declared.out_of_memory.OutOfMemory.{OutOfMemory}
use Rattle.argus_contents.specs.{Value.PlainValue, Content.{PlainContent, arr, KeepsLimits}, Answer.PlainAnswer}
use Rattle.argus_contents.specs.Change.{PlainChange, Outcome, outcome, CreatesWithin}
use Rattle.argus_contents.proofs.Kept.{outcome_keeps}

-- a bound within the limits fits 64 bits
pub bound_fits : (low : ℤ) (vs : List PlainValue) → KeepsLimits (Some (arr low vs)) → SFits w64 low
bound_fits (pos n) vs k =
    let to = k.to in
    record { sfits = omega (arith, ints) }
bound_fits (negsuc n) vs k =
    let from = k.from in
    record { sfits = omega (arith, ints) }

-- what was stored of an array is what was meant, whatever says the answer
pub refit : {A : Type 0} (said : A → PlainAnswer) (r : Result A OutOfMemory) (low : ℤ) (vs : List PlainValue)
    (o : Outcome) → KeepsLimits o.0 → IfOk r (λ answer. (Some (arr low vs), said answer) ≡ o)
    → IfOk r (λ answer. (Some (arr (to_z w64 (of_z w64 low)) vs), said answer) ≡ o)
refit said (Ok answer) low vs o k e =
    let fits : SFits w64 low = bound_fits low vs (subst KeepsLimits (sym (ap (λ (p : Outcome). p.0) e)) k) in
    rw (to_z-of_z w64 low fits) e
refit said (Err refused) low vs o k e = tt

-- a content that is changed where it lies keeps the limits, whether the change succeeds or changes nothing
pub changed_keeps : {A : Type 0} (said : A → PlainAnswer) (r : Result A OutOfMemory) (c : PlainChange)
    (before after : PlainContent) → KeepsLimits (Some before)
    → IfOk r (λ answer. (Some after, said answer) ≡ outcome c (Some before)) → OnErr r (after ≡ before)
    → CreatesWithin c → KeepsLimits (Some after)
changed_keeps said (Ok answer) c before after k e same within =
    subst KeepsLimits (sym (ap (λ (p : Outcome). p.0) e)) (outcome_keeps c (Some before) within k)
changed_keeps said (Err refused) c before after k e same within = rw same k
