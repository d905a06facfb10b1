-- `word` follows the pointer, which lasts. Assumes `Logic`.
use Rattle.std.proofs.{Common.{ℕ, ◌+◌, List, [], ◌∷◌, refl, sym}, raw_atomic.Walks.proved}
use mir.Val.{Val, vptr}
use mir.Syntax.{named, ty_ptr}
use base.Logic.{SProp, id⊢}
use base.Fml.{ftrue, fat, flft}
use contract.Running.{tables}
use types.Kit.{‵, raw, ◌⊛◌, at_ret, ◌$◌, ◌∵◌, !, qed, move, keep, drop, split, join, fsplit}
use types.Kit.{fjoin, feq_i, group, rewrite, suffices, done}
use types.Run.{enter, addr, stop, fld, hop, look, of_opd, first, blocks, exec, returns}
use types.ByLocal.{alloc_all, pass_all, free_all, look_at, get, through, sets, sets_last, env}
use denote.Builtin.{RefOf}
use denote.Exit.{yes}
use denote.RattleType.{owns}
use denote.RawPtr.{Ptr, ptr_val, in_a_block}
use denote.Ref.{shr_vals, shr_Tells}
use denote.Signature.{plain, types_at}
use denote.Opens.{hide, unhide}
use denote.Steps.{nothing}
use denote.Triple.Walked.{Stays, walk_of, stay_dropped, Goes-dropped, ends_at}
use Rattle.argus_memory.specs.Count.{lasts}
use Rattle.argus_memory.specs.contracts.count.Count as C
use Rattle.argus_memory.specs.contracts.count.Count.word as f
use Rattle.argus_memory.proofs.{count.Count.word.Statement.statement, Lasting.{pointer_in, pointer_out}}
use Rattle.argus_memory.proofs.count.Count.word.Code as code

abbrev stayed : Stays f.ended.signature.params f.ended.kept
stayed = (stay_dropped _ yes, tt)

pub word_spec : {M : Type 1} → statement M
word_spec 𝓤 𝓛 𝓜 𝓡 wired =
    let c = f.clauses 𝓛 𝓜.mem 𝓡.returns in
    let W = walk_of 𝓛 f.ended stayed c in
    let 𝓣 = tables 𝓤 𝓛.H 𝓜 𝓡 𝓡.env in
    let self = RefOf (0 ∷ []) tt (plain (λ _. C.the_row)) (λ _. tt) in
    proved 𝓛 f.ended stayed c 𝓜 𝓡 (Goes-dropped 𝓛 1 self yes (λ κs x w. refl), tt)
    f.Key.name code.function (code.unfolded 𝓤 𝓛.H 𝓜 𝓡 wired)
    (λ κs. (shr_vals, tt)) (λ κs. (shr_Tells (named 0) κs.0 C.the_row, tt)) (λ κs qs bounds a gh are.
    let b : ℕ = a.0.ref_ptr.0 in
    let o : ℕ = a.0.ref_ptr.1 in
    let at : Ptr = a.0.now.at in
    let y : W.Ghost = ((κs, qs, bounds, a, (shr_vals a.0, tt)), gh) in
    let Post : Val → SProp 𝓤 = W.post y in
    qed 𝓛 (((‵ (flft κs.0 qs.0) ⊛ ‵ ftrue) ⊛ ‵ (owns (types_at f.ended.signature.params κs) a y.0.4)) ∷
    raw ((c κs a).requires gh) ∷ []) ∵
    keep ! (0 ∷ []) $ split ! $ split ! $ move ! (2 ∷ []) $ fsplit ! $ fsplit ! $ drop ! $ move ! (0 ∷ 2 ∷ []) $
    -- [a `&` to the count; κ's token]
    enter ! 𝓣.C 𝓣.Λ code.function (vptr b o ∷ []) Post $ alloc_all ! (λ l. pass_all ! refl ((tt, tt), tt) $
    unhide ! $ fsplit ! $ fsplit ! $ fsplit ! $ hide ! $ move ! (0 ∷ 4 ∷ []) $ pointer_in ! tt at b (o + 0) (λ part.
    move ! (4 ∷ []) $
    -- [that a word lasts there; the pointer; the way back]
    in_a_block ! at lasts (id⊢ 𝓤 _) (λ kb kc e.
    rewrite ! 1 (λ (p : Ptr). ‵ (fat part ty_ptr b (o + 0) (ptr_val p))) e refl $ first ! $ blocks ! $
    sets_last ! (addr ! (through ! refl (fld ! refl (hop ! (look ! 1 refl) (stop !))))) refl (tt, tt) $
    exec ! 𝓣.C 𝓣.Λ (env code.function.locals l) code.Mir.t-2 (at_ret _ Post) $
    sets ! (of_opd ! (get ! refl)) refl (tt, tt) $
    rewrite ! 1 (λ (p : Ptr). ‵ (fat part ty_ptr b (o + 0) (ptr_val p))) (sym e) refl $
    feq_i ! (List Val) (vptr kb kc ∷ []) (vptr kb kc ∷ []) refl $ fjoin ! $
    move ! (1 ∷ 2 ∷ []) $ pointer_out ! tt at b (o + 0) $
    returns ! (look_at ! 0 refl) $ free_all ! refl $ keep ! (0 ∷ 1 ∷ []) $
    suffices ! _ (ends_at 𝓛 f.ended stayed c y (vptr kb kc) (record { ref_ptr = (kb, kc); now = record {} })
    (tt, tt) (tt, tt)) $
    nothing ! $ move ! (2 ∷ []) $ nothing ! $ nothing ! $ fjoin ! $
    nothing ! $ move ! (4 ∷ 0 ∷ []) $ join ! $ group ! 3 $ done !))))
