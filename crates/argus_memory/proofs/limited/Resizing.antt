-- `grow` and `shrink` of `Limited`, whose contracts differ in one fact, φ: what they are handed, the inner allocator's
-- call, and how they end. Assumes `Logic`.
use Rattle.std.proofs.{Common.{◌≡◌, ℕ, Bool, List, [], ◌∷◌, refl, w64, Bor}, raw_atomic.Walks.proved}
use Rattle.std.proofs.{alloc.Calls.{Al, token, Answer, answer_val}, alloc.Resizes.{result_own, asked, heard_all}}
use Rattle.std.proofs.alloc.Resizes.{Sizes, resize_key, Resizes, at_resizes, Resizes-goes, Resizes-gives, result_of}
use seplogic.Ra.Ura.{Ura}
use mir.Syntax.{Args, Body, Callee, Fn, Opd, Place, a_type, call, dcons, dnil, seq}
use mir.Val.{Val, WT, vint}
use base.Logic.{SProp, ent}
use base.Fml.{Lft, Share, Fml, ftrue, flft}
use prog.Model.{Model}
use prog.Wp.{Closed, Env, Loops, WpFn}
use types.Logic.{Logic}
use types.Kit.{Item, Post, Seq, Sq, ‵, raw, ◌⊛◌, some, later, given, lands, prop, runs, ◌$◌, ◌∵◌, !, qed, move}
use types.Kit.{keep, regoal, use0, use1, split, split3, join, pick, learn, fsplit, fjoin, suffices, await, done}
use types.Run.{Opds}
use contract.BorrowLft.{◌⊑◌, ⊑_trans}
use contract.Running.{MachineTables, Running, tables}
use denote.RattleType.{RattleType, owns}
use denote.Ref.{shr_vals}
use denote.Param.{bounded, param}
use denote.Plain.{uint_vals, uint_Tells}
use denote.Signature.{types_at}
use denote.Steps.{nothing}
use denote.RawPtr.{Ptr, block_ptr, null_ptr, in_a_block, rawptr_vals, rawptr_Tells}
use denote.Triple.Call.{calls_at}
use denote.Triple.Clauses.{Ended, Clauses, closing}
use denote.Triple.Spec.{Meets}
use denote.Triple.Statement.{Triple, Contract}
use denote.Triple.Table.{framed}
use denote.Triple.Walked.{walk_of, ends_at}
use Rattle.std.specs.Allocator.{block_with_items, resized_if_ok}
use Rattle.argus_memory.specs.contracts.limited.Limited as wrapper
use Rattle.argus_memory.specs.contracts.limited.LimitedAllocator.grow as F
use Rattle.argus_memory.proofs.limited.Calling.{count_seen, dropped, each_goes, inner_at, inner_seen, parts}

-- what a caller hands over, but for the block: three lifetimes, those of the `&`, of the inner allocator and of the
-- values, a share of each one's token, the `&`, the three numbers, and the values
pub record Handed (Z : Al) (X : RattleType) : Type 0 where
  pub lifetime : Lft
  pub inner_lifetime : Lft
  pub value_lifetime : Lft
  pub share : Share
  pub inner_share : Share
  pub value_share : Share
  pub outlived : lifetime ⊑ inner_lifetime
  pub self : Bor (wrapper.the_row Z.row).Denot
  pub len : ℕ
  pub old_cap : ℕ
  pub new_cap : ℕ
  pub len_fits : WT (vint w64 len)
  pub old_cap_fits : WT (vint w64 old_cap)
  pub new_cap_fits : WT (vint w64 new_cap)
  pub values : List X.Denot

module _ (Z : Al) (X : RattleType) where
  abbrev pub arguments : Args
  arguments = bounded (a_type ∷ a_type ∷ []) (Z.row, (X, tt)) (dcons Z.d (dcons Z.drops dnil))

  abbrev pub ended : Ended
  ended = F.ended Z.row X Z.g Z.d Z.drops

module _ (Z : Al) (X : RattleType) (φ : Sizes) {M : Type 1} {𝓤 : Ura M} (𝓛 : Logic 𝓤) (𝓜 : Model 𝓤 𝓛.H)
    (𝓡 : Running 𝓤 𝓛.H 𝓜) where
  open 𝓛 use {H}

  abbrev 𝓣 : MachineTables 𝓤 H 𝓜
  𝓣 = tables 𝓤 H 𝓜 𝓡 𝓡.env

  abbrev pub clauses : Clauses 𝓤 (ended Z X)
  clauses κs a = record {
    ghost = List X.Denot;
    requires = λ xs. asked 𝓛 (κs.1.0 ⊑ Z.row.lives) (κs.1.1.0 ⊑ X.lives) (φ a.1.1.0 a.1.1.1.0 a.1.1.1.1.0)
        (block_with_items (token Z a.0.now.inner) (param 1 X) a.1.0 a.1.1.0 a.1.1.1.0 xs);
    ensures = (F.clauses Z.row X Z.g Z.d Z.drops 𝓛 𝓜.mem 𝓡.returns κs a).ensures;
  }

  abbrev Walk : Contract 𝓤
  Walk = walk_of 𝓛 (ended Z X) (dropped (ended Z X)) clauses

  abbrev pub Called : Contract 𝓤
  Called = Resizes Z X φ 𝓛 𝓜.mem 𝓡.returns

  module _ (c : Handed Z X) where
    abbrev bound : Ptr → Walk.Ghost
    bound x = (
      (
        (c.lifetime, (c.inner_lifetime, (c.value_lifetime, tt))),
        (c.share, (c.inner_share, (c.value_share, tt))),
        (c.outlived, tt),
        (c.self, (x, (c.len, (c.old_cap, (c.new_cap, tt))))),
        (
          shr_vals c.self,
          (rawptr_vals x, (vint w64 c.len ∷ [], (vint w64 c.old_cap ∷ [], (vint w64 c.new_cap ∷ [], tt)))),
        ),
      ),
      c.values,
    )

    abbrev pub Passed : Ptr → List Val
    Passed x = Walk.args (bound x)

    abbrev pub Returned : Ptr → Val → SProp 𝓤
    Returned x = Walk.post (bound x)

    -- what the `requires` says beside the block
    abbrev pub Known : Type 0
    Known = (c.lifetime ⊑ Z.row.lives) × (c.value_lifetime ⊑ X.lives) × φ c.len c.old_cap c.new_cap

    abbrev block : Ptr → Fml
    block x = block_with_items (token Z c.self.now.inner) (param 1 X) x c.len c.old_cap c.values

    abbrev own_token : Item 𝓤
    own_token = ‵ (flft c.lifetime c.share)

    abbrev inner_token : Item 𝓤
    inner_token = ‵ (flft c.inner_lifetime c.inner_share)

    abbrev value_token : Item 𝓤
    value_token = ‵ (flft c.value_lifetime c.value_share)

    -- what there is at the entry
    abbrev pub held : ℕ → ℕ → List (Item 𝓤)
    held b o = ‵ (count_seen Z c.self c.lifetime) ∷ own_token ∷ ‵ (inner_seen Z c.self c.lifetime) ∷
        ‵ (block (block_ptr b o)) ∷ value_token ∷ inner_token ∷ []

    begins : (P : Ptr → SProp 𝓤) → ((b o : ℕ) → Known → Sq 𝓛 (held b o) (prop (P (block_ptr b o)))) → (x : Ptr)
        → ent 𝓤 (Walk.pre (bound x)) (P x)
    begins P k x =
        let sized : Type 0 = φ c.len c.old_cap c.new_cap in
        qed 𝓛 (((own_token ⊛ inner_token ⊛ value_token ⊛ ‵ ftrue) ⊛
        ‵ (owns (types_at (ended Z X).signature.params (bound x).0.0) (bound x).0.3 (bound x).0.4)) ∷
        raw (asked 𝓛 (c.inner_lifetime ⊑ Z.row.lives) (c.value_lifetime ⊑ X.lives) sized (block x)) ∷ []) ∵
        move ! (1 ∷ []) $ heard_all ! (c.inner_lifetime ⊑ Z.row.lives) (c.value_lifetime ⊑ X.lives) sized (block x)
        (λ inner_lasts values_last said. in_a_block ! x block
        (qed 𝓛 (‵ (block null_ptr) ∷ []) ∵ fsplit ! $ keep ! (0 ∷ []) $ done !) (λ b o e.
        regoal ! (λ z. prop (P z)) e refl $ move ! (1 ∷ []) $
        split ! $ split3 ! $ move ! (2 ∷ []) $ split ! $ move ! (4 ∷ []) $ fsplit ! $ parts Z ! c.lifetime c.self $
        keep ! (0 ∷ 5 ∷ 1 ∷ 7 ∷ 3 ∷ 6 ∷ []) $
        k b o (⊑_trans c.lifetime c.inner_lifetime Z.row.lives c.outlived inner_lasts, values_last, said)))

    module _ (b o : ℕ) where
      abbrev at_call : Called.Ghost
      at_call = at_resizes Z X φ 𝓛 𝓜.mem 𝓡.returns c.lifetime c.value_lifetime c.share c.value_share (inner_at Z c.self)
          c.self.now.inner b o c.len c.old_cap c.new_cap c.values

      -- what became of the block, by a flag of whether the call succeeded
      abbrev left : Bool × (ℕ × ℕ) → Fml
      left f = resized_if_ok (token Z c.self.now.inner) (param 1 X) (block_ptr b o) c.len c.old_cap c.new_cap c.values
          (result_of f.0 f.1.0 f.1.1)

      module _ {K : Type 0} {Λ : Loops 𝓤 H} {E : Env 𝓤 H} {q : Post 𝓤 H} {Γ : List (Item 𝓤)} {d : Place}
          {os : List Opd} {rest : Body} where
        pub resizes : K → (k : ℕ) → Triple 𝓤 (𝓣.C (resize_key Z X k)) Called → Known
            → Opds K 𝓛 (raw (Called.pre at_call) ∷ Γ) E os (Called.args at_call)
            → ((f : Bool × (ℕ × ℕ)) (v : Val) → v ≡ answer_val f.0 f.1.0 f.1.1
            → Seq K 𝓛 (‵ (left f) ∷ own_token ∷ value_token ∷ Γ) (lands 𝓣.C Λ E d v rest q))
            → Seq K 𝓛 (own_token ∷ ‵ (inner_seen Z c.self c.lifetime) ∷ ‵ (block (block_ptr b o)) ∷ value_token ∷ Γ)
            (runs 𝓣.C Λ E (seq (call (resize_key Z X k) os d) rest) q)
        resizes t k met known operands after =
            move t (0 ∷ 3 ∷ []) $ join t $ move t (1 ∷ 0 ∷ []) $ join t $ move t (1 ∷ 0 ∷ []) $ join t $
            use1 𝓛 (raw (Called.pre at_call)) (Resizes-goes Z X φ 𝓛 𝓜.mem 𝓡.returns c.lifetime c.value_lifetime
            c.share c.value_share (inner_at Z c.self) c.self.now.inner b o c.len c.old_cap c.new_cap c.values
            known.0 known.1 known.2 c.len_fits.fits c.old_cap_fits.fits c.new_cap_fits.fits) $
            calls_at t (framed 𝓤 H 𝓜 𝓣) Called met at_call operands (λ v.
            use1 𝓛 (later (some (λ (f : Bool × (ℕ × ℕ)). given (v ≡ answer_val f.0 f.1.0 f.1.1) (‵ (left f))) ⊛
            own_token ⊛ value_token)) (Resizes-gives Z X φ 𝓛 𝓜.mem 𝓡.returns c.lifetime c.value_lifetime c.share
            c.value_share (inner_at Z c.self) c.self.now.inner b o c.len c.old_cap c.new_cap c.values v) $
            await t tt $ split3 t $ pick t (λ f. learn t (λ e. after f v e)))

      pub ends : {K : Type 0} → K → (f : Bool × (ℕ × ℕ))
          → Seq K 𝓛 (‵ (left f) ∷ own_token ∷ value_token ∷ inner_token ∷ [])
          (prop (Returned (block_ptr b o) (answer_val f.0 f.1.0 f.1.1)))
      ends t f =
          suffices t _ (ends_at 𝓛 (ended Z X) (dropped (ended Z X)) clauses (bound (block_ptr b o))
          (answer_val f.0 f.1.0 f.1.1) (result_of f.0 f.1.0 f.1.1)
          (tt, (tt, (tt, (tt, (tt, tt))))) (tt, (tt, (tt, (tt, (tt, tt)))))) $
          use0 𝓛 (‵ (Answer.own_val (result_of f.0 f.1.0 f.1.1) (answer_val f.0 f.1.0 f.1.1 ∷ [])))
          (result_own 𝓛 f.0 f.1.0 f.1.1) $
          nothing t $ nothing t $ fjoin t $ nothing t $ fjoin t $ nothing t $ fjoin t $ nothing t $ fjoin t $
          nothing t $ fjoin t $ join t $
          -- [the result; the block; the three tokens]
          nothing t $ move t (4 ∷ 0 ∷ []) $ join t $ move t (4 ∷ 0 ∷ []) $ join t $ move t (3 ∷ 0 ∷ []) $
          join t $ join t $ done t

  -- a function meets the contract at φ, by a walk of its body where it is handed a block
  pub resized : (k : Callee) (e : Fn) → Closed 𝓤 H 𝓣.C 𝓣.Λ k e
      → ((c : Handed Z X) (b o : ℕ) → Known c → Sq 𝓛 (held c b o)
      (prop (WpFn 𝓤 H 𝓣.C 𝓣.Λ e (Passed c (block_ptr b o)) (Returned c (block_ptr b o)))))
      → Meets 𝓛 (ended Z X).signature (𝓣.C k) (closing 𝓛 (ended Z X) clauses)
  resized k e closed walk =
      proved 𝓛 (ended Z X) (dropped (ended Z X)) clauses 𝓜 𝓡
      (each_goes 𝓛 (ended Z X).signature.params (ended Z X).kept (
        (λ _ _ _. refl),
        ((λ _ _ _. refl), ((λ _ _ _. refl), ((λ _ _ _. refl), ((λ _ _ _. refl), tt)))),
      )) k e closed
      (λ κs. (shr_vals, (rawptr_vals, (uint_vals w64, (uint_vals w64, (uint_vals w64, tt))))))
      (λ κs. ((λ r vs s. s.0), (rawptr_Tells, (uint_Tells w64, (uint_Tells w64, (uint_Tells w64, tt))))))
      (λ κs qs bounds a xs are.
      let c : Handed Z X = record {
        lifetime = κs.0;
        inner_lifetime = κs.1.0;
        value_lifetime = κs.1.1.0;
        share = qs.0;
        inner_share = qs.1.0;
        value_share = qs.1.1.0;
        outlived = bounds.0;
        self = a.0;
        len = a.1.1.0;
        old_cap = a.1.1.1.0;
        new_cap = a.1.1.1.1.0;
        len_fits = record { fits = are.1.1.0.1 };
        old_cap_fits = record { fits = are.1.1.1.0.1 };
        new_cap_fits = record { fits = are.1.1.1.1.0.1 };
        values = xs;
      } in
      begins c (λ x. WpFn 𝓤 H 𝓣.C 𝓣.Λ e (Passed c x) (Returned c x)) (walk c) a.1.0)
