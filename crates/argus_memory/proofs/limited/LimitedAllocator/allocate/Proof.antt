-- It refuses where the budget is spent, and else answers what the inner allocator answers. Assumes `Logic`.
use Rattle.std.proofs.{Common.{◌≡◌, ℕ, Bool, true, false, [], ◌∷◌, refl, w64}, raw_atomic.Walks.proved}
use Rattle.std.proofs.alloc.Calls.{Al, token, Answer, answer_val, Answer-typed, Takes, at_takes, Answered, Takes-goes}
use Rattle.std.proofs.{alloc.Calls.{Takes-gives, answers}, alloc.Resizes.{result_of, result_own}, alloc.Shapes.after}
use seplogic.Ra.Ura.{Ura}
use mir.Syntax.{Fn}
use mir.Val.{vint}
use mir.MapTy.{inst_fn}
use base.Logic.{SProp}
use base.Fml.{ftrue, flft}
use prog.Memory.{Memory, size, align, capped}
use prog.Routine.{Routine}
use types.Logic.{Logic}
use contract.BorrowLft.{◌⊑◌, ⊑_trans}
use contract.Monad.{Fun, fact}
use contract.Running.{tables}
use types.Run.{stop, fld, addr, lit, no_more, and_then, first, branches, skips, exec, returns, returns_within, enter}
use types.Part.{agg}
use types.Kit.{Sq, ‵, raw, ◌⊛◌, at_ret, later, prop, ◌$◌, ◌∵◌, !, qed, move, keep, drop, use0, use1, split, join}
use types.Kit.{fsplit, fjoin, suffices, await, done}
use types.ByLocal.{alloc_all, pass_all, free_all, look_at, get, through, sets, lands_as, env}
use denote.RattleType.{owns}
use denote.Ref.{shr_vals}
use denote.Plain.{uint_vals, uint_Tells}
use denote.Signature.{types_at}
use denote.Steps.{heard, nothing}
use denote.Triple.Call.{calls_at}
use denote.Triple.Clauses.{Ended, Clauses}
use denote.Triple.Statement.{Contract}
use denote.Triple.Table.{framed}
use denote.Triple.Walked.{walk_of, ends_at}
use Rattle.std.specs.Allocator.{block_if_ok}
use Rattle.argus_memory.proofs.limited.Calling.{arguments, dropped, each_goes, inner_at, parts, spends}
use Rattle.argus_memory.specs.contracts.limited.LimitedAllocator.allocate as F
use Rattle.argus_memory.specs.contracts.limited.LimitedAllocator.allocate.Key as key
use Rattle.argus_memory.proofs.limited.LimitedAllocator.allocate.Statement as stated
use Rattle.argus_memory.proofs.limited.LimitedAllocator.allocate.Code as code

abbrev here : Al → Fn
here Z = inst_fn (arguments Z) code.function

abbrev ended : Al → Ended
ended Z = F.ended Z.row Z.g Z.d Z.drops

module _ (Z : Al) {M : Type 1} {𝓤 : Ura M} (𝓛 : Logic 𝓤) (at_mem : Memory → SProp 𝓤) (run : Routine → Fun 𝓤) where
  abbrev clauses : Clauses 𝓤 (ended Z)
  clauses = F.clauses Z.row Z.g Z.d Z.drops 𝓛 at_mem run

  abbrev Walk : Contract 𝓤
  Walk = walk_of 𝓛 (ended Z) (dropped (ended Z)) clauses

  ends : (y : Walk.Ghost) (f : Bool × (ℕ × ℕ))
      → Sq 𝓛 (‵ (block_if_ok (token Z y.0.3.0.now.inner) y.1 (result_of f.0 f.1.0 f.1.1)) ∷ ‵ (flft y.0.0.0 y.0.1.0) ∷
      (‵ (flft y.0.0.1.0 y.0.1.1.0) ⊛ ‵ ftrue) ∷ []) (prop (Walk.post y (answer_val f.0 f.1.0 f.1.1)))
  ends y f =
      suffices ! _ (ends_at 𝓛 (ended Z) (dropped (ended Z)) clauses y (answer_val f.0 f.1.0 f.1.1)
      (result_of f.0 f.1.0 f.1.1) (tt, (tt, (tt, tt))) (tt, (tt, (tt, tt)))) $
      use0 𝓛 (‵ (Answer.own_val (result_of f.0 f.1.0 f.1.1) (answer_val f.0 f.1.0 f.1.1 ∷ [])))
      (result_own 𝓛 f.0 f.1.0 f.1.1) $
      nothing ! $ nothing ! $ fjoin ! $ nothing ! $ fjoin ! $ nothing ! $ fjoin ! $ join ! $
      move ! (2 ∷ 3 ∷ []) $ join ! $ join ! $ done !

pub allocate_spec : {M : Type 1} → stated.statement M
allocate_spec 𝓤 𝓛 𝓜 𝓡 wired Y L g d d' met _ =
    let Z : Al = record { row = Y; laws = L; g = g; d = d; drops = d' } in
    let 𝓣 = tables 𝓤 𝓛.H 𝓜 𝓡 𝓡.env in
    let W = Walk Z 𝓛 𝓜.mem 𝓡.returns in
    proved 𝓛 (ended Z) (dropped (ended Z)) (clauses Z 𝓛 𝓜.mem 𝓡.returns) 𝓜 𝓡
    (each_goes 𝓛 (ended Z).signature.params (ended Z).kept ((λ _ _ _. refl), ((λ _ _ _. refl), ((λ _ _ _. refl), tt))))
    (key.name (arguments Z)) (here Z) (code.unfolded 𝓤 𝓛.H 𝓜 𝓡 wired (Y, tt) d d')
    (λ κs. (shr_vals, (uint_vals w64, (uint_vals w64, tt))))
    (λ κs. ((λ r vs s. s.0), (uint_Tells w64, (uint_Tells w64, tt))))
    (λ κs qs bounds a τ are.
    let n : ℕ = a.1.0 in
    let al : ℕ = a.1.1.0 in
    let y : W.Ghost = ((κs, qs, bounds, a, (shr_vals a.0, (vint w64 n ∷ [], (vint w64 al ∷ [], tt)))), τ) in
    let at_call = at_takes Z 𝓛 𝓜.mem 𝓡.returns κs.0 qs.0 (inner_at Z a.0) a.0.now.inner n al τ in
    let Said : Type 0 = (capped (size τ) ≡ n) × (capped (align τ) ≡ al) in
    qed 𝓛 (((‵ (flft κs.0 qs.0) ⊛ ‵ (flft κs.1.0 qs.1.0) ⊛ ‵ ftrue) ⊛ ‵
    (owns (types_at (ended Z).signature.params κs) a y.0.4)) ∷
    (raw (fact 𝓤 (κs.1.0 ⊑ Y.lives)) ⊛ raw (fact 𝓤 Said)) ∷ []) ∵
    move ! (1 ∷ []) $ split ! $ heard ! (κs.1.0 ⊑ Y.lives) (λ le. heard ! Said (λ said.
    split ! $ split ! $ move ! (2 ∷ []) $ fsplit ! $ parts Z ! κs.0 a.0 $ keep ! (0 ∷ 3 ∷ 1 ∷ 4 ∷ []) $
    -- [the count; the `&`'s token; the inner handle; its token]
    enter ! _ _ _ _ _ $ alloc_all ! (λ l. pass_all ! refl
    ((tt, tt), ((tt, record { fits = are.1.0.1 }), ((tt, record { fits = are.1.1.0.1 }), tt))) $
    sets ! (addr ! (through ! refl (fld ! refl (stop !)))) refl (tt, tt) $
    spends 𝓛 𝓜 𝓡 (code.calls-argus_memory::count::is_spent 𝓡.env wired) Z a.0 κs.0 qs.0 !
    (and_then ! (get ! refl) (no_more !)) (λ spent u eu. lands_as ! eu refl (tt, tt) $ first ! $ branches ! (get ! refl)
    (λ yes_spent. sets ! (agg ! (no_more !)) refl (tt, tt) $
    sets ! (agg ! (and_then ! (lit ! tt) (and_then ! (get ! refl) (no_more !)))) refl (Answer-typed false 0 0) $
    returns_within ! (W.post y) refl (look_at ! 0 refl) $ free_all ! refl $ move ! (1 ∷ []) $ drop ! $ nothing ! $
    ends Z 𝓛 𝓜.mem 𝓡.returns y (false, (0, 0)))
    (λ has_left. skips ! $ exec ! 𝓣.C 𝓣.Λ (env (here Z).locals l) (after 3 (here Z).body)
    (at_ret (env (here Z).locals l) (W.post y)) $ move ! (1 ∷ []) $
    sets ! (addr ! (through ! refl (fld ! refl (stop !)))) refl (tt, tt) $ join ! $
    use1 𝓛 (raw ((Takes Z 𝓛 𝓜.mem 𝓡.returns).pre at_call)) (Takes-goes Z 𝓛 𝓜.mem 𝓡.returns κs.0 qs.0 (inner_at Z a.0)
    a.0.now.inner (⊑_trans κs.0 κs.1.0 Y.lives bounds.0 le) n al τ said.0 said.1 are.1.0.1 are.1.1.0.1) $
    calls_at ! (framed 𝓤 𝓛.H 𝓜 𝓣) (Takes Z 𝓛 𝓜.mem 𝓡.returns) (met.allocate d') at_call
    (and_then ! (get ! refl) (and_then ! (get ! refl) (and_then ! (get ! refl) (no_more !)))) (λ v.
    use1 𝓛 (later (raw (Answered Z 𝓛 𝓜.mem 𝓡.returns a.0.now.inner τ v) ⊛ ‵ (flft κs.0 qs.0)))
    (Takes-gives Z 𝓛 𝓜.mem 𝓡.returns κs.0 qs.0 (inner_at Z a.0) a.0.now.inner n al τ v) $ await ! tt $ split ! $
    answers Z ! 𝓜.mem 𝓡.returns a.0.now.inner τ v
    (λ b o e. fjoin ! $ lands_as ! e refl (Answer-typed true b o) $ returns ! (look_at ! 0 refl) $ free_all ! refl $
    ends Z 𝓛 𝓜.mem 𝓡.returns y (true, (b, o)))
    (λ e. lands_as ! e refl (Answer-typed false 0 0) $ returns ! (look_at ! 0 refl) $ free_all ! refl $ nothing ! $
    ends Z 𝓛 𝓜.mem 𝓡.returns y (false, (0, 0))))))))))
