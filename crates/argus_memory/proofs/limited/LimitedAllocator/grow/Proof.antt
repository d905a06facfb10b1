-- It refuses where the budget is spent, and else answers what the inner allocator answers. Assumes `Logic`.
use Rattle.std.proofs.{Common.{[], ◌∷◌, false, refl}, alloc.Calls.{Al, Answer-typed}, alloc.Shapes.after}
use Rattle.std.proofs.alloc.Resizes.{Grows}
use mir.Syntax.{Fn}
use mir.MapTy.{inst_fn}
use types.Kit.{at_ret, ◌$◌, !, drop, move}
use types.Run.{stop, fld, addr, lit, no_more, and_then, first, branches, skips, exec, returns, returns_within, enter}
use types.Part.{agg}
use types.ByLocal.{alloc_all, pass_all, free_all, look_at, get, through, sets, lands_as, env}
use contract.Running.{tables}
use denote.RawPtr.{block_ptr}
use denote.RattleType.{RattleType}
use Rattle.argus_memory.proofs.{limited.Calling.spends, limited.Resizing.{arguments, Returned, resizes, ends, resized}}
use Rattle.argus_memory.specs.contracts.limited.LimitedAllocator.grow.Key as key
use Rattle.argus_memory.proofs.limited.LimitedAllocator.grow.Statement as stated
use Rattle.argus_memory.proofs.limited.LimitedAllocator.grow.Code as code

abbrev here : Al → RattleType → Fn
here Z X = inst_fn (arguments Z X) code.function

pub grow_spec : {M : Type 1} → stated.statement M
grow_spec 𝓤 𝓛 𝓜 𝓡 wired Y X LY L g d d' met _ =
    let Z : Al = record { row = Y; laws = LY; g = g; d = d; drops = d' } in
    let 𝓣 = tables 𝓤 𝓛.H 𝓜 𝓡 𝓡.env in
    resized Z X (Grows X) 𝓛 𝓜 𝓡 (key.name (arguments Z X)) (here Z X)
    (code.unfolded 𝓤 𝓛.H 𝓜 𝓡 wired (Y, (X, tt)) d d')
    (λ c b o known.
    enter ! _ _ _ _ _ $ alloc_all ! (λ l.
    pass_all ! refl ((tt, tt), ((tt, tt), ((tt, c.len_fits), ((tt, c.old_cap_fits), ((tt, c.new_cap_fits), tt))))) $
    sets ! (addr ! (through ! refl (fld ! refl (stop !)))) refl (tt, tt) $
    spends 𝓛 𝓜 𝓡 (code.calls-argus_memory::count::is_spent 𝓡.env wired) Z c.self c.lifetime c.share !
    (and_then ! (get ! refl) (no_more !)) (λ spent u eu. lands_as ! eu refl (tt, tt) $ first ! $ branches ! (get ! refl)
    (λ yes_spent. sets ! (agg ! (no_more !)) refl (tt, tt) $
    sets ! (agg ! (and_then ! (lit ! tt) (and_then ! (get ! refl) (no_more !)))) refl (Answer-typed false 0 0) $
    returns_within ! (Returned Z X (Grows X) 𝓛 𝓜 𝓡 c (block_ptr b o)) refl (look_at ! 0 refl) $
    free_all ! refl $ move ! (1 ∷ []) $ drop ! $ move ! (1 ∷ []) $
    ends Z X (Grows X) 𝓛 𝓜 𝓡 c b o ! (false, (0, 0)))
    (λ has_left. skips ! $ exec ! 𝓣.C 𝓣.Λ (env (here Z X).locals l) (after 3 (here Z X).body)
    (at_ret (env (here Z X).locals l) (Returned Z X (Grows X) 𝓛 𝓜 𝓡 c (block_ptr b o))) $
    sets ! (addr ! (through ! refl (fld ! refl (stop !)))) refl (tt, tt) $
    resizes Z X (Grows X) 𝓛 𝓜 𝓡 c b o ! 2 (met.grow d' X L) known
    (and_then ! (get ! refl) (and_then ! (get ! refl) (and_then ! (get ! refl)
    (and_then ! (get ! refl) (and_then ! (get ! refl) (no_more !)))))) (λ f v e.
    lands_as ! e refl (Answer-typed f.0 f.1.0 f.1.1) $ returns ! (look_at ! 0 refl) $ free_all ! refl $
    ends Z X (Grows X) 𝓛 𝓜 𝓡 c b o ! f)))))
