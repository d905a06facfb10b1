-- It answers what the inner allocator answers. Assumes `Logic`.
use Rattle.std.proofs.{Common.refl, alloc.Calls.{Al, Answer-typed}, alloc.Resizes.Shrinks}
use mir.Syntax.{Fn}
use mir.MapTy.{inst_fn}
use types.Kit.{◌$◌, !, drop}
use types.Run.{stop, fld, addr, no_more, and_then, returns, enter}
use types.ByLocal.{alloc_all, pass_all, free_all, look_at, get, through, sets, lands_as}
use denote.RattleType.{RattleType}
use Rattle.argus_memory.proofs.limited.Resizing.{arguments, resizes, ends, resized}
use Rattle.argus_memory.specs.contracts.limited.LimitedAllocator.shrink.Key as key
use Rattle.argus_memory.proofs.limited.LimitedAllocator.shrink.Statement as stated
use Rattle.argus_memory.proofs.limited.LimitedAllocator.shrink.Code as code

abbrev here : Al → RattleType → Fn
here Z X = inst_fn (arguments Z X) code.function

pub shrink_spec : {M : Type 1} → stated.statement M
shrink_spec 𝓤 𝓛 𝓜 𝓡 wired Y X LY L g d d' met _ =
    let Z : Al = record { row = Y; laws = LY; g = g; d = d; drops = d' } in
    resized Z X (Shrinks X) 𝓛 𝓜 𝓡 (key.name (arguments Z X)) (here Z X)
    (code.unfolded 𝓤 𝓛.H 𝓜 𝓡 wired (Y, (X, tt)) d d')
    (λ c b o known. drop ! $
    enter ! _ _ _ _ _ $ alloc_all ! (λ l.
    pass_all ! refl ((tt, tt), ((tt, tt), ((tt, c.len_fits), ((tt, c.old_cap_fits), ((tt, c.new_cap_fits), tt))))) $
    sets ! (addr ! (through ! refl (fld ! refl (stop !)))) refl (tt, tt) $
    resizes Z X (Shrinks X) 𝓛 𝓜 𝓡 c b o ! 3 (met.shrink d' X L) known
    (and_then ! (get ! refl) (and_then ! (get ! refl) (and_then ! (get ! refl)
    (and_then ! (get ! refl) (and_then ! (get ! refl) (no_more !)))))) (λ f v e.
    lands_as ! e refl (Answer-typed f.0 f.1.0 f.1.1) $ returns ! (look_at ! 0 refl) $ free_all ! refl $
    ends Z X (Shrinks X) 𝓛 𝓜 𝓡 c b o ! f)))
