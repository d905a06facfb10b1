-- `at` keeps what a `&'static` to a word holds. Assumes `Logic`.
use Rattle.std.proofs.{Common.{ℕ, [], ◌∷◌, refl}, raw_atomic.Walks.proved}
use mir.Syntax.{static}
use types.Kit.{‵, raw, ◌⊛◌, ◌$◌, ◌∵◌, !, qed, move, keep, drop, use1, split, fsplit, fjoin, group, suffices, done}
use types.Run.{enter, addr, stop, and_then, no_more, returns}
use types.Part.{agg}
use types.ByLocal.{alloc_all, pass_all, free_all, look_at, get, through, sets}
use denote.Builtin.{RefOf}
use denote.Exit.{yes}
use denote.RattleType.{owns}
use denote.RawPtr.{block_ptr}
use denote.Ref.{shr_vals, shr_Tells}
use denote.Signature.{plain, types_at}
use denote.Steps.{nothing}
use denote.Triple.Entry.{alive}
use denote.Triple.Walked.{Stays, walk_of, stay_dropped, Goes-dropped, ends_at}
use Rattle.std.specs.contracts.sync.atomic.AtomicU64.{the_row as word}
use Rattle.argus_memory.specs.contracts.count.Count as C
use Rattle.argus_memory.specs.contracts.count.Count.at as f
use Rattle.argus_memory.proofs.{count.Count.at.Statement.statement, Lasting.{count_val, count_made}}
use Rattle.argus_memory.proofs.count.Count.at.Code as code

abbrev stayed : Stays f.ended.signature.params f.ended.kept
stayed = (stay_dropped _ yes, tt)

pub at_spec : {M : Type 1} → statement M
at_spec 𝓤 𝓛 𝓜 𝓡 wired =
    let c = f.clauses 𝓛 𝓜.mem 𝓡.returns in
    let W = walk_of 𝓛 f.ended stayed c in
    let self = RefOf [] tt (plain (λ _. word)) (λ _. tt) in
    proved 𝓛 f.ended stayed c 𝓜 𝓡 (Goes-dropped 𝓛 0 self yes (λ κs x w. refl), tt)
    f.Key.name code.function (code.unfolded 𝓤 𝓛.H 𝓜 𝓡 wired)
    (λ κs. (shr_vals, tt)) (λ κs. (shr_Tells static [] word, tt)) (λ κs qs bounds a gh are.
    let b : ℕ = a.0.ref_ptr.0 in
    let o : ℕ = a.0.ref_ptr.1 in
    let y : W.Ghost = ((κs, qs, bounds, a, (shr_vals a.0, tt)), gh) in
    qed 𝓛 ((raw (alive 𝓛 f.ended.signature κs qs) ⊛ ‵ (owns (types_at f.ended.signature.params κs) a y.0.4)) ∷
    raw ((c κs a).requires gh) ∷ []) ∵
    keep ! (0 ∷ []) $ split ! $ move ! (1 ∷ []) $ fsplit ! $ fsplit ! $ drop ! $
    enter ! _ _ _ _ _ $ alloc_all ! (λ l. pass_all ! refl ((tt, tt), tt) $
    sets ! (addr ! (through ! refl (stop !))) refl (tt, tt) $
    sets ! (agg ! (and_then ! (get ! refl) (no_more !))) refl (tt, (tt, tt)) $
    returns ! (look_at ! 0 refl) $ free_all ! refl $
    use1 𝓛 (‵ (C.the_row.own_val (record { at = block_ptr b o }) (count_val (block_ptr b o) ∷ [])))
    (count_made 𝓛 (block_ptr b o)) $
    suffices ! _ (ends_at 𝓛 f.ended stayed c y (count_val (block_ptr b o)) (record { at = block_ptr b o })
    (tt, tt) (tt, tt)) $
    keep ! (0 ∷ []) $ nothing ! $ move ! (1 ∷ []) $ nothing ! $ nothing ! $ fjoin ! $ nothing ! $ group ! 3 $ done !))
