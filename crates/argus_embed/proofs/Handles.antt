-- What is the same for each handle: it is made of a box's parts, taken apart into them, and made closed.
use mir.Syntax.{Body, Callee, Fn, Local, Sym, Ty, aggregate, assign, copy, dnil, field, impl, int, local, place, return}
use mir.Syntax.{rv_opd, seq, tcons, tnil, ty_ptr, ty_struct, value_local, w64}
use mathlib.Core.{Bool.true≢false, Path.{ap, ◌∙◌, ◌≡◌}}
use base.Fml.{Fml}
use contract.Running.{MachineTables, Running}
use denote.Exit.{Kept, Last, left}
use denote.Param.Laws.{Laws}
use denote.RawPtr.{Ptr}
use denote.Struct.{Owning.{Owning, row}, Struct.Struct}
use denote.Triple.{Clauses.{Clauses, Ended, closing}, Spec.Meets, Walked.AllGo}
use prog.{Model.Model, Wp.Closed}
use Rattle.std_heap.specs.contracts.Global as Heap
use Rattle.std_heap.specs.contracts.GlobalAllocator.TheImpl.{dict, ghosts}
use Rattle.std_heap.proofs.Global.TheLaws as heap
use Rattle.argus_embed.specs.Held.{box_if_any}
use Rattle.argus_embed.specs.contracts.raw_box.RawBox as RawBox
use Rattle.argus_embed.proofs.Steps.{B, !, Bx, D, Goes-blank, Goes-dropped, IsSome, Item, List, Logic, None, Option, P, R}
use Rattle.argus_embed.proofs.Steps.{RattleType, RawPtr, SProp, Some, Stays, Ura, Val, Valss, WpFn, [], agg, alloc_all, and_then}
use Rattle.argus_embed.proofs.Steps.{and_tt, box_in, box_out, box_typed, by, done, drop, emp, ends_at, ent, enter, fact, feq_i}
use Rattle.argus_embed.proofs.Steps.{fjoin, fld, fpack, free_all, fsep, fsplit, ftrue, get, get_in, handle_tells, has_ty, heard}
use Rattle.argus_embed.proofs.Steps.{id⊢, join, lit, lit<, look_at, move, no, no_more, nothing, null_ptr, of_list, of_opd, owning}
use Rattle.argus_embed.proofs.Steps.{pass_all, plain, proved_at, ptr_val, qed, raw, refl, returns, rewrite, says, sets, shape}
use Rattle.argus_embed.proofs.Steps.{split, stay_dropped, stop, sub, subst, suffices, sym, tables, use1, vstruct, walk_of, whole}
use Rattle.argus_embed.proofs.Steps.{within, word, yes, α, ‵, ◌$◌, ◌++◌, ◌∵◌, ◌∷◌, ◌⊛◌}

-- a box of the heap
abbrev pub boxed : (inner : RattleType) → Laws inner → Bx
boxed inner laws = record {
  row = inner;
  laws = laws;
  al = record { row = Heap.the_row; laws = heap.the_row_laws; g = ghosts; d = dict; drops = impl [] tnil dnil };
}

-- a box taken apart
abbrev pub Parts : RattleType → RattleType
Parts inner = RawBox.the_row inner Heap.the_row ghosts

-- what a handle has: its pointer, its heap, and what is in its box
abbrev pub Has : RattleType → Type 0
Has inner = Ptr × Heap.the_row.Denot × Option inner.Denot

-- what it owns
abbrev pub owned : (inner : RattleType) → Laws inner → Has inner → List Val → Fml
owned inner laws h ws =
    let E = boxed inner laws in
    fsep ((Struct (shape (owning E))).own_val (h.0, (h.1, tt)) ws) (box_if_any (R E) h.1 h.0 h.2)

-- a handle's type
pub record Handle : Type 2 where
  pub inner : RattleType
  pub laws : Laws inner
  pub type : Owning
  pub to : type.D → Has inner
  pub from : Has inner → type.D
  pub owns : (h : Has inner) (ws : List Val) → (row type).own_val (from h) ws ≡ owned inner laws h ws
  pub is : (d : type.D) → d ≡ from (to d)
  pub keeps : (h : Has inner) → (to (from h)).2 ≡ h.2
  pub parts : (v : D (boxed inner laws)) (ws : List Val) → (B (boxed inner laws)).own_val v ws
      ≡ (Parts inner).own_val (record { ptr = v.ptr; alloc = v.alloc; value = v.value }) ws
  pub last : (d : type.D) → Last (type.exit yes) d
  pub silent : (d : type.D) (f : Last (type.exit yes) d) → left (type.exit yes) d f ≡ ftrue

-- A function from one value to another meets its contract where its code does, whatever comes after it.
module _ (S T : RattleType) (k : Kept) where
  abbrev ended : Ended
  ended = record {
    signature = record { lifetimes = 0; outlives = []; params = plain (λ _. S) ∷ []; result = plain (λ _. T) };
    kept = (k, tt);
  }

  abbrev stayed : Stays ended.signature.params ended.kept
  stayed = (stay_dropped (plain (λ _. S)) k, tt)

  module _ {M : Type 1} {𝓤 : Ura M} (𝓛 : Logic 𝓤) (𝓜 : Model 𝓤 𝓛.H) (𝓡 : Running 𝓤 𝓛.H 𝓜) (asks : S.Denot → SProp 𝓤)
      (tells : S.Denot → T.Denot → Type 0) (f : Fn) where
    abbrev 𝓣 : MachineTables 𝓤 𝓛.H 𝓜
    𝓣 = tables 𝓤 𝓛.H 𝓜 𝓡 𝓡.env

    abbrev clauses : Clauses 𝓤 ended
    clauses κs args = record {
      ghost = Unit {0};
      requires = λ _. asks args.0;
      ensures = λ _ made end. fact 𝓤 (tells args.0 made);
    }

    abbrev Met : Type 2
    Met = (c : Callee) → Closed 𝓤 𝓛.H 𝓣.C 𝓣.Λ c f → Meets 𝓛 ended.signature (𝓣.C c) (closing 𝓛 ended clauses)

    met : AllGo 𝓛 0 ended.signature.params ended.kept stayed → ((x : S.Denot) → Last (S.exit k) x)
        → ((x : S.Denot) (vs : List Val) (Post : Val → SProp 𝓤)
        → ((w : Val) (made : T.Denot) → tells x made → ent 𝓤 (types.Kit.⋆ 𝓛 (‵ (T.own_val made (w ∷ [])) ∷ [])) (Post w))
        → ent 𝓤 (types.Kit.⋆ 𝓛 (‵ (S.own_val x vs) ∷ raw (asks x) ∷ [])) (WpFn 𝓤 𝓛.H 𝓣.C 𝓣.Λ f (vs ++ []) Post)) → Met
    met go last runs c closed = proved_at 𝓛 ended stayed clauses 𝓜 𝓡 go c f closed (λ z are.
        qed 𝓛 ((‵ ftrue ⊛ ‵ (fsep (S.own_val z.0.3.0 z.0.4.0) ftrue)) ∷ raw (asks z.0.3.0) ∷ []) ∵ split ! $ drop ! $
        fsplit ! $ move ! (1 ∷ []) $ drop ! $
        by ! (runs z.0.3.0 z.0.4.0 ((walk_of 𝓛 ended stayed clauses).post z) (λ w made is.
        qed 𝓛 (‵ (T.own_val made (w ∷ [])) ∷ []) ∵
        suffices ! _ (ends_at 𝓛 ended stayed clauses z w made (last z.0.3.0, tt) (tt, tt)) $ says ! is $
        nothing ! $ nothing ! $ fjoin ! $ join ! $ nothing ! $ join ! $ done !)))

some_of : {A : Type 0} (o : Option A) → IsSome o → (x : A) × (o ≡ Some x)
some_of (Some x) is = (x, refl)
some_of None is = absurd (true≢false (sym is))

module _ (K : Handle) where
  abbrev E : Bx
  E = boxed K.inner K.laws

  abbrev raw_name : Sym
  raw_name = (RawBox.the_type K.inner Heap.the_row ghosts).name

  abbrev code : List Local → Body → Fn
  code locals body = record {
    lifetimes = 0;
    outlives = [];
    ty_params = [];
    givens = 0;
    params = 1;
    locals = locals;
    body = body;
  }

  abbrev pair_local : Sym → Local
  pair_local name = local (ty_struct name (tcons ty_ptr (tcons (α E.al) tnil))) value_local

  -- the code that moves both fields
  abbrev moved : Sym → Sym → Fn
  moved from to = code
      (pair_local to ∷ pair_local from ∷ local ty_ptr value_local ∷ local (α E.al) value_local
      ∷ local ty_ptr value_local ∷ [])
      (seq (assign (place 2 []) (rv_opd (copy (place 1 (field 0 ∷ [])))))
      (seq (assign (place 3 []) (rv_opd (copy (place 1 (field 1 ∷ [])))))
      (seq (assign (place 4 []) (rv_opd (copy (place 2 []))))
      (seq (assign (place 0 []) (aggregate (copy (place 4 []) ∷ copy (place 3 []) ∷ []))) return))))

  -- the code that makes a closed handle
  abbrev closed_code : Fn
  closed_code = code (pair_local K.type.name ∷ local (α E.al) value_local ∷ [])
      (seq (assign (place 0 []) (aggregate (int w64 0 ∷ copy (place 1 []) ∷ []))) return)

  module _ {M : Type 1} {𝓤 : Ura M} (𝓛 : Logic 𝓤) (𝓜 : Model 𝓤 𝓛.H) (𝓡 : Running 𝓤 𝓛.H 𝓜) where
    abbrev run : Fn → List Val → (Val → SProp 𝓤) → SProp 𝓤
    run = WpFn 𝓤 𝓛.H (tables 𝓤 𝓛.H 𝓜 𝓡 𝓡.env).C (tables 𝓤 𝓛.H 𝓜 𝓡 𝓡.env).Λ

    moves : (v : D E) (vs : List Val) (from to : Sym) (Post : Val → SProp 𝓤)
        → ((w : Val) → ent 𝓤 (types.Kit.⋆ 𝓛 (‵ ((B E).own_val v (w ∷ [])) ∷ [])) (Post w))
        → ent 𝓤 (types.Kit.⋆ 𝓛 (‵ ((B E).own_val v vs) ∷ [])) (run (moved from to) (vs ++ []) Post)
    moves v vs from to Post ends =
        qed 𝓛 (‵ ((B E).own_val v vs) ∷ []) ∵ box_out E ! v vs (λ b o h e ws fits. box_in E ! v b o v.value e refl $
        let w : Val = word E h b o in
        let Γ : List (Item 𝓤) = ‵ ((B E).own_val v (w ∷ [])) ∷ [] in
        by ! (subst (λ (us : List Val). ent 𝓤 (types.Kit.⋆ 𝓛 Γ) (run (moved from to) (us ++ []) Post)) (sym ws)
        (qed 𝓛 Γ ∵ enter ! _ _ (moved from to) (w ∷ []) _ $ alloc_all ! (λ ls.
        pass_all ! refl (box_typed E h b o fits, tt) $
        sets ! (of_opd ! (get_in ! (fld ! refl (stop !)) (sub ! 0 refl (whole !)))) refl (tt, tt) $
        sets ! (of_opd ! (get_in ! (fld ! refl (stop !)) (sub ! 1 refl (whole !)))) refl fits $
        sets ! (of_opd ! (get ! refl)) refl (tt, tt) $
        sets ! (agg ! (and_then ! (get ! refl) (and_then ! (get ! refl) (no_more !)))) refl (box_typed E h b o fits) $
        returns ! (look_at ! 0 refl) $ free_all ! refl $ by ! (ends w)))))

    pub of_raw_box_meets : Met (Parts K.inner) (row K.type) no 𝓛 𝓜 𝓡 (λ _. emp 𝓤) (λ x d. (K.to d).2 ≡ Some x.value)
        (moved raw_name K.type.name)
    of_raw_box_meets = met (Parts K.inner) (row K.type) no 𝓛 𝓜 𝓡 (λ _. emp 𝓤) _ _
        (Goes-blank 𝓛 0 (plain (λ _. Parts K.inner)) no (λ κs x f. tt), tt) (λ x. tt) (λ x vs Post ends.
        let v : D E = record { ptr = x.ptr; alloc = x.alloc; value = x.value } in
        let h : Has K.inner = (x.ptr, x.alloc, Some x.value) in
        qed 𝓛 (‵ ((Parts K.inner).own_val x vs) ∷ raw (emp 𝓤) ∷ []) ∵ move ! (1 ∷ []) $ drop ! $
        rewrite ! 0 (λ (F : Fml). ‵ F) (sym (K.parts v vs)) refl $
        by ! (moves v vs raw_name K.type.name Post (λ w.
        qed 𝓛 (‵ ((B E).own_val v (w ∷ [])) ∷ []) ∵ use1 𝓛 (‵ (owned K.inner K.laws h (w ∷ []))) (id⊢ 𝓤 _) $
        rewrite ! 0 (λ (F : Fml). ‵ F) (sym (K.owns h (w ∷ []))) refl $ by ! (ends w (K.from h) (K.keeps h)))))

    pub into_raw_box_meets : Met (row K.type) (Parts K.inner) yes 𝓛 𝓜 𝓡 (λ d. fact 𝓤 (IsSome (K.to d).2))
        (λ d x. Some x.value ≡ (K.to d).2) (moved K.type.name raw_name)
    into_raw_box_meets = met (row K.type) (Parts K.inner) yes 𝓛 𝓜 𝓡 (λ d. fact 𝓤 (IsSome (K.to d).2)) _ _
        (Goes-dropped 𝓛 0 (plain (λ _. row K.type)) yes (λ κs d f. K.silent d f), tt) K.last (λ d vs Post ends.
        let h = K.to d in
        qed 𝓛 (‵ ((row K.type).own_val d vs) ∷ raw (fact 𝓤 (IsSome h.2)) ∷ []) ∵
        move ! (1 ∷ []) $ heard ! (IsSome h.2) (λ is.
        let found = some_of h.2 is in
        let v : D E = record { ptr = h.0; alloc = h.1; value = found.0 } in
        rewrite ! 0 (λ (F : Fml). ‵ F) (ap (λ (x : K.type.D). (row K.type).own_val x vs) (K.is d) ∙ K.owns h vs
        ∙ ap (λ (s : Option K.inner.Denot). owned K.inner K.laws (h.0, h.1, s) vs) found.1) refl $
        use1 𝓛 (‵ ((B E).own_val v vs)) (id⊢ 𝓤 _) $ by ! (moves v vs K.type.name raw_name Post (λ w.
        qed 𝓛 (‵ ((B E).own_val v (w ∷ [])) ∷ []) ∵ rewrite ! 0 (λ (F : Fml). ‵ F) (K.parts v (w ∷ [])) refl $
        by ! (ends w (record { ptr = v.ptr; alloc = v.alloc; value = v.value }) (sym found.1))))))

    pub none_meets : Met Heap.the_row (row K.type) yes 𝓛 𝓜 𝓡 (λ _. emp 𝓤) (λ a d. (K.to d).2 ≡ None) closed_code
    none_meets = met Heap.the_row (row K.type) yes 𝓛 𝓜 𝓡 (λ _. emp 𝓤) _ _
        (Goes-dropped 𝓛 0 (plain (λ _. Heap.the_row)) yes (λ κs a f. refl), tt) (λ a. tt) (λ a vs Post ends.
        let nothing_in : Has K.inner = (null_ptr, a, None) in
        qed 𝓛 (‵ (E.al.row.own_val a vs) ∷ raw (emp 𝓤) ∷ []) ∵
        handle_tells E.al ! a vs (λ h eh fits. move ! (1 ∷ []) $ drop ! $
        let w : Val = vstruct (of_list (ptr_val null_ptr ∷ h ∷ [])) in
        let Γ : List (Item 𝓤) = ‵ (E.al.row.own_val a (h ∷ [])) ∷ [] in
        by ! (subst (λ (us : List Val). ent 𝓤 (types.Kit.⋆ 𝓛 Γ) (run closed_code (us ++ []) Post)) (sym eh)
        (qed 𝓛 Γ ∵ enter ! _ _ closed_code (h ∷ []) _ $ alloc_all ! (λ ls. pass_all ! refl (fits, tt) $
        sets ! (agg ! (and_then ! (lit ! tt) (and_then ! (get ! refl) (no_more !)))) refl (
          and_tt (has_ty (α E.al) h) fits.0,
          (record { fits = lit< tt }, (fits.1, tt)),
        ) $
        nothing ! $ nothing ! $ move ! (2 ∷ 0 ∷ []) $ fjoin ! $
        feq_i ! (List Val) (ptr_val null_ptr ∷ []) (ptr_val null_ptr ∷ []) refl $ fjoin ! $
        feq_i ! (List Val) (w ∷ []) (w ∷ []) refl $ fjoin ! $
        fpack ! (Valss (RawPtr ∷ P E ∷ [])) (within (shape (owning E)) (null_ptr, (a, tt)) (w ∷ []))
        (ptr_val null_ptr ∷ [], (h ∷ [], tt)) $ fjoin ! $
        use1 𝓛 (‵ (owned K.inner K.laws nothing_in (w ∷ []))) (id⊢ 𝓤 _) $
        rewrite ! 0 (λ (F : Fml). ‵ F) (sym (K.owns nothing_in (w ∷ []))) refl $
        returns ! (look_at ! 0 refl) $ free_all ! refl $ by ! (ends w (K.from nothing_in) (K.keeps nothing_in)))))))
