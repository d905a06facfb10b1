-- What each method of `Limited` does: it drops what it is handed, takes the `&` to the allocator apart, and some call
-- `is_spent`. Assumes `Logic`.
use Rattle.std.proofs.{Common.{◌≡◌, ℕ, ◌+◌, Bool, List, [], ◌∷◌, refl, ap, Bor}, alloc.Calls.{Al, α, seen}}
use seplogic.Ra.Ura.{Ura}
use mir.Syntax.{Args, Body, Opd, Place, a_type, call, dcons, dnil, named, seq}
use mir.Val.{Val, vbool, vptr}
use base.Logic.{ent, sep, id⊢}
use base.Fml.{Fml, Lft, Share, flft, fsep, ftrue}
use prog.Memory.{align, size, up}
use prog.Model.{Model}
use prog.Wired.{Wired}
use prog.Wp.{Env, Loops}
use types.Logic.{Logic, sem}
use types.Run.{Opds}
use contract.Running.{MachineTables, Running, tables}
use types.Kit.{Goal, Item, Post, Seq, Step, step, ‵, raw, ◌⊛◌, lands, later, runs, some, ◌$◌, ◌∵◌, !, qed, await, drop}
use types.Kit.{feq_i, feq_l, fjoin, fsplit, join, done, move, pick, split, use1, use2}
use denote.Builtin.{bool}
use denote.Memory.{hidden_shr}
use denote.Opens.{unhide}
use denote.Param.{bounded, param}
use denote.Ref.{ShrRef, shr_vals}
use denote.Signature.{Slot}
use denote.Steps.{nothing, only}
use denote.Triple.Call.{calls_at}
use denote.Triple.Clauses.{Ended}
use denote.Triple.End.{Kepts}
use denote.Triple.Statement.{Contract}
use denote.Triple.Table.{cited, framed}
use denote.Triple.Spec.{triple_of}
use denote.Triple.Walked.{AllGo, Goes-dropped, Silent, Stays, stay_dropped}
use Rattle.argus_memory.specs.contracts.count.Count as CO
use Rattle.argus_memory.specs.contracts.count.is_spent as TK
use Rattle.argus_memory.specs.contracts.limited.Limited as wrapper
use Rattle.argus_memory.proofs.count.is_spent.Met as is_spent
use Rattle.argus_memory.proofs.count.is_spent.Symbol as symbol

-- the type arguments of a method that has none of its own
abbrev pub arguments : Al → Args
arguments Z = bounded (a_type ∷ []) (Z.row, tt) (dcons Z.d (dcons Z.drops dnil))

-- nothing is had at the exit of the parameters
abbrev each_dropped : {n : ℕ} (ss : List (Slot n)) (ks : Kepts ss) → Stays ss ks
each_dropped [] ks = tt
each_dropped (s ∷ ss) ks = (stay_dropped s ks.0, each_dropped ss ks.1)

abbrev pub dropped : (T : Ended) → Stays T.signature.params T.kept
dropped T = each_dropped T.signature.params T.kept

module _ {M : Type 1} {𝓤 : Ura M} (𝓛 : Logic 𝓤) {n : ℕ} where
  abbrev pub AllSilent : (ss : List (Slot n)) → Kepts ss → Type 1
  AllSilent [] ks = Unit {1}
  AllSilent (s ∷ ss) ks = Silent 𝓛 n s ks.0 × AllSilent ss ks.1

  pub each_goes : (ss : List (Slot n)) (ks : Kepts ss) → AllSilent ss ks → AllGo 𝓛 n ss ks (each_dropped ss ks)
  each_goes [] ks silent = tt
  each_goes (s ∷ ss) ks silent = (Goes-dropped 𝓛 n s ks.0 silent.0, each_goes ss ks.1 silent.1)

-- where the inner allocator lies, and where the count does, and a `&` to each
module _ (Z : Al) (r : Bor (wrapper.the_row Z.row).Denot) where
  abbrev pub inner_at : ℕ × ℕ
  inner_at = (r.ref_ptr.0, r.ref_ptr.1 + up (align (α Z)) 0)

  abbrev pub count_at : ℕ × ℕ
  count_at = (r.ref_ptr.0, r.ref_ptr.1 + up 8 (up (align (α Z)) 0 + size (α Z)))

  abbrev pub inner_seen : Lft → Fml
  inner_seen κ = seen Z κ inner_at r.now.inner

  abbrev pub count_seen : Lft → Fml
  count_seen κ = hidden_shr CO.the_row κ r.now.count count_at.0 count_at.1

module _ (Z : Al) {M : Type 1} {𝓤 : Ura M} {𝓛 : Logic 𝓤} {K : Type 0} {Γ : List (Item 𝓤)} {G : Goal 𝓤 𝓛.H} where
  pub parts : K → (κ : Lft) (r : Bor (wrapper.the_row Z.row).Denot)
      → Step K 𝓛 (‵ (count_seen Z r κ) ∷ ‵ (inner_seen Z r κ) ∷ Γ) G
      (‵ ((ShrRef (named 0) κ (wrapper.the_row (param 0 Z.row))).own_val r (shr_vals r)) ∷ Γ) G
  parts t κ r = step (λ s.
      fsplit t $ move t (1 ∷ []) $ unhide t $ fsplit t $ fsplit t $ use1 𝓛 (‵ (inner_seen Z r κ)) (id⊢ 𝓤 _) $
      move t (1 ∷ []) $ fsplit t $ use1 𝓛 (‵ (count_seen Z r κ)) (id⊢ 𝓤 _) $
      move t (1 ∷ []) $ drop t $ move t (2 ∷ []) $ drop t $ move t (2 ∷ []) $ drop t $ s)

module _ {M : Type 1} {𝓤 : Ura M} (𝓛 : Logic 𝓤) (𝓜 : Model 𝓤 𝓛.H) (𝓡 : Running 𝓤 𝓛.H 𝓜)
    (wired : Wired 𝓡.env symbol.code) (Z : Al) (r : Bor (wrapper.the_row Z.row).Denot) (κ : Lft) (q : Share) where
  open 𝓛 use {H, A}

  abbrev 𝓣 : MachineTables 𝓤 H 𝓜
  𝓣 = tables 𝓤 H 𝓜 𝓡 𝓡.env

  abbrev Asks : Contract 𝓤
  Asks = triple_of 𝓛 TK.signature (TK.spec 𝓛 𝓜.mem 𝓡.returns)

  abbrev at : ℕ × ℕ
  at = count_at Z r

  abbrev asked : Asks.Ghost
  asked = (((κ, tt), (q, tt), tt, (record { ref_ptr = at; now = r.now.count }, tt), (vptr at.0 at.1 ∷ [], tt)), tt)

  handed : ent 𝓤 (sep 𝓤 (sem 𝓛 (count_seen Z r κ)) (A.lft κ q)) (Asks.pre asked)
  handed =
      qed 𝓛 (‵ (count_seen Z r κ) ∷ ‵ (flft κ q) ∷ []) ∵
      feq_i ! (List Val) (vptr at.0 at.1 ∷ []) (vptr at.0 at.1 ∷ []) refl $ fjoin ! $ nothing ! $ move ! (1 ∷ []) $
      fjoin ! $ nothing ! $ move ! (2 ∷ []) $ join ! $ join ! $ nothing ! $ move ! (1 ∷ []) $ done !

  pub spends : {K : Type 0} {Λ : Loops 𝓤 H} {E : Env 𝓤 H} {p : Post 𝓤 H} {Γ : List (Item 𝓤)} {d : Place}
      {os : List Opd} {rest : Body} → K → Opds K 𝓛 (raw (Asks.pre asked) ∷ Γ) E os (Asks.args asked)
      → ((spent : Bool) (u : Val) → u ≡ vbool spent → Seq K 𝓛 (‵ (flft κ q) ∷ Γ) (lands 𝓣.C Λ E d u rest p))
      → Seq K 𝓛 (‵ (count_seen Z r κ) ∷ ‵ (flft κ q) ∷ Γ)
      (runs 𝓣.C Λ E (seq (call symbol.name os d) rest) p)
  spends t operands after =
      use2 𝓛 (raw (Asks.pre asked)) handed $
      calls_at t (framed 𝓤 H 𝓜 𝓣) Asks (cited 𝓤 H Asks 𝓜 𝓡 𝓡.env symbol.name (𝓡.env symbol.name) refl
      (is_spent.met 𝓤 𝓛 𝓜 𝓡 wired)) asked operands (λ u.
      use1 𝓛 (later (some (λ (spent : Bool). ((‵ (flft κ q) ⊛ ‵ ftrue) ⊛ ‵ (bool.own_val spent (u ∷ []))) ⊛
      some (λ (ws : Unit {0} × Unit {0}). ‵ (fsep ftrue ftrue) ⊛ ‵ ftrue)))) (id⊢ 𝓤 _) $
      await t tt $ pick t (λ spent. split t $ split t $ move t (1 ∷ []) $ feq_l t (λ e. split t $
      move t (1 ∷ []) $ drop t $ move t (1 ∷ []) $ drop t $ after spent u (ap only e))))
