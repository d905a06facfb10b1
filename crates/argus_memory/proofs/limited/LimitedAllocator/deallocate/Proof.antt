-- It gives the block back to the inner allocator. Assumes `Logic`.
use Rattle.std.proofs.{Common.{◌≡◌, ℕ, List, [], ◌∷◌, refl, w64}, raw_atomic.Walks.proved}
use Rattle.std.proofs.alloc.Calls.{Al, token, Gives, at_gives, Gives-goes, Gives-Gives}
use mir.Syntax.{Fn}
use mir.Val.{Val, vint, vunit}
use mir.MapTy.{inst_fn}
use base.Logic.{fst∗, never}
use base.Fml.{Fml, flft, fsep, ftrue}
use prog.Memory.{size, align, capped}
use prog.Wp.{WpFn}
use types.Logic.{sem}
use contract.BorrowLft.{◌⊑◌, ⊑_trans}
use contract.Monad.{fact}
use contract.Running.{tables}
use types.Kit.{‵, raw, ◌⊛◌, later, given, prop, ◌$◌, ◌∵◌, !, qed, move, keep, regoal, use1, split, split3, join, learn}
use types.Kit.{fsplit, fjoin, feq_i, suffices, await, done}
use types.Run.{stop, fld, addr, no_more, and_then, of_opd, unit_lit, returns, enter}
use types.ByLocal.{alloc_all, pass_all, free_all, look_at, get, through, sets, lands_as}
use denote.RattleType.{owns}
use denote.Ref.{shr_vals}
use denote.RawPtr.{Ptr, block_ptr, null_ptr, in_a_block, room_for, rawptr_vals, rawptr_Tells}
use denote.Plain.{uint_vals, uint_Tells}
use denote.Signature.{types_at}
use denote.Steps.{heard, nothing}
use denote.Triple.Call.{calls_at}
use denote.Triple.Clauses.{Ended}
use denote.Triple.Table.{framed}
use denote.Triple.Walked.{walk_of, ends_at}
use Rattle.argus_memory.proofs.limited.Calling.{arguments, dropped, each_goes, inner_at, parts}
use Rattle.argus_memory.specs.contracts.limited.LimitedAllocator.deallocate as F
use Rattle.argus_memory.specs.contracts.limited.LimitedAllocator.deallocate.Key as key
use Rattle.argus_memory.proofs.limited.LimitedAllocator.deallocate.Statement as stated
use Rattle.argus_memory.proofs.limited.LimitedAllocator.deallocate.Code as code

abbrev here : Al → Fn
here Z = inst_fn (arguments Z) code.function

abbrev ended : Al → Ended
ended Z = F.ended Z.row Z.g Z.d Z.drops

pub deallocate_spec : {M : Type 1} → stated.statement M
deallocate_spec 𝓤 𝓛 𝓜 𝓡 wired Y L g d d' met _ =
    let Z : Al = record { row = Y; laws = L; g = g; d = d; drops = d' } in
    let 𝓣 = tables 𝓤 𝓛.H 𝓜 𝓡 𝓡.env in
    let clauses = F.clauses Y g d d' 𝓛 𝓜.mem 𝓡.returns in
    let W = walk_of 𝓛 (ended Z) (dropped (ended Z)) clauses in
    let Called = Gives Z 𝓛 𝓜.mem 𝓡.returns in
    proved 𝓛 (ended Z) (dropped (ended Z)) clauses 𝓜 𝓡 (each_goes 𝓛 (ended Z).signature.params (ended Z).kept
    ((λ _ _ _. refl), ((λ _ _ _. refl), ((λ _ _ _. refl), ((λ _ _ _. refl), tt)))))
    (key.name (arguments Z)) (here Z) (code.unfolded 𝓤 𝓛.H 𝓜 𝓡 wired (Y, tt) d d')
    (λ κs. (shr_vals, (rawptr_vals, (uint_vals w64, (uint_vals w64, tt)))))
    (λ κs. ((λ r vs s. s.0), (rawptr_Tells, (uint_Tells w64, (uint_Tells w64, tt)))))
    (λ κs qs bounds a τ are.
    let h : Y.Denot = a.0.now.inner in
    let n : ℕ = a.1.1.0 in
    let al : ℕ = a.1.1.1.0 in
    let y : Ptr → W.Ghost = λ x. (
      (
        κs,
        qs,
        bounds,
        (a.0, (x, a.1.1)),
        (shr_vals a.0, (rawptr_vals x, (vint w64 n ∷ [], (vint w64 al ∷ [], tt)))),
      ),
      τ,
    ) in
    let block : Ptr → Fml = λ x. fsep (room_for τ x) (token Z h τ x) in
    let Said : Type 0 = (capped (size τ) ≡ n) × (capped (align τ) ≡ al) in
    qed 𝓛 (((‵ (flft κs.0 qs.0) ⊛ ‵ (flft κs.1.0 qs.1.0) ⊛ ‵ ftrue) ⊛ ‵
    (owns (types_at (ended Z).signature.params κs) a (y a.1.0).0.4)) ∷
    (raw (fact 𝓤 (κs.1.0 ⊑ Y.lives)) ⊛ raw (fact 𝓤 Said) ⊛ ‵ (block a.1.0)) ∷ []) ∵
    move ! (1 ∷ []) $ split3 ! $ heard ! (κs.1.0 ⊑ Y.lives) (λ le. heard ! Said (λ said.
    in_a_block ! a.1.0 block (fst∗ 𝓤 (never 𝓤) (sem 𝓛 (token Z h τ null_ptr))) (λ b o at.
    regoal ! (λ x. prop (WpFn 𝓤 𝓛.H 𝓣.C 𝓣.Λ (here Z) (W.args (y x)) (W.post (y x)))) at refl $ move ! (1 ∷ []) $
    split ! $ split ! $ move ! (2 ∷ []) $ fsplit ! $ parts Z ! κs.0 a.0 $ keep ! (1 ∷ 3 ∷ 4 ∷ 5 ∷ []) $
    -- [the inner handle; the `&`'s token; its own token; the block]
    enter ! _ _ _ _ _ $ alloc_all ! (λ l. pass_all ! refl
    ((tt, tt), ((tt, tt), ((tt, record { fits = are.1.1.0.1 }), ((tt, record { fits = are.1.1.1.0.1 }), tt)))) $
    sets ! (addr ! (through ! refl (fld ! refl (stop !)))) refl (tt, tt) $
    join ! $ move ! (2 ∷ []) $ fsplit ! $ move ! (1 ∷ 2 ∷ []) $ join ! $ move ! (1 ∷ 0 ∷ []) $ join ! $
    let z : Called.Ghost = at_gives Z 𝓛 𝓜.mem 𝓡.returns κs.0 qs.0 (inner_at Z a.0) h b o n al τ in
    use1 𝓛 (raw (Called.pre z)) (Gives-goes Z 𝓛 𝓜.mem 𝓡.returns κs.0 qs.0 (inner_at Z a.0) h
    (⊑_trans κs.0 κs.1.0 Y.lives bounds.0 le) b o n al τ said.0 said.1 are.1.1.0.1 are.1.1.1.0.1) $
    calls_at ! (framed 𝓤 𝓛.H 𝓜 𝓣) Called (met.deallocate d') z (and_then ! (get ! refl) (and_then ! (get ! refl)
    (and_then ! (get ! refl) (and_then ! (get ! refl) (no_more !))))) (λ v.
    use1 𝓛 (later (given (v ≡ vunit) (‵ (flft κs.0 qs.0))))
    (Gives-Gives Z 𝓛 𝓜.mem 𝓡.returns κs.0 qs.0 (inner_at Z a.0) h b o n al τ v) $ await ! tt $ learn ! (λ e.
    lands_as ! e refl (tt, tt) $ sets ! (of_opd ! (unit_lit !)) refl (tt, tt) $ returns ! (look_at ! 0 refl) $
    free_all ! refl $
    suffices ! _ (ends_at 𝓛 (ended Z) (dropped (ended Z)) clauses (y (block_ptr b o)) vunit tt
    (tt, (tt, (tt, (tt, tt)))) (tt, (tt, (tt, (tt, tt))))) $
    nothing ! $ feq_i ! (List Val) (vunit ∷ []) (vunit ∷ []) refl $ nothing ! $ nothing ! $ fjoin ! $ nothing ! $
    fjoin ! $ nothing ! $ fjoin ! $ nothing ! $ fjoin ! $ join ! $ move ! (2 ∷ 3 ∷ []) $ join ! $ join ! $ done !)))))))
