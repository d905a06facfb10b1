-- The right to look at a count lasts, can be duplicated, and may go to other threads. Assumes `Logic`.
use Rattle.std.proofs.Common.{ℕ, List, [], ◌∷◌, refl}
use seplogic.Ra.Ura.{Ura}
use mir.Syntax.{ty_ptr}
use mir.Val.{Val, vstruct, vcons, vnil}
use base.Logic.{SProp, ent, sep, wand, apply∗, never_e}
use base.Shift.{Keyless}
use base.Fml.{Lft, Share, Fml, fat, fbor, flft}
use types.Logic.{Logic, sem, lfts}
use types.Kit.{Goal, Soaks, Step, step, Seq, Item, ‵, raw, ◌⊛◌, later, ◌$◌, ◌∵◌, !, qed, move, drop, use0, use1, use2}
use types.Kit.{split, rewrite, feq_l, feq_i, await, updating, now, done}
use denote.RawPtr.{Ptr, RawPtr, block_ptr, null_ptr, coded_ptr, ptr_own, rawptr_pure, ptr_val}
use denote.Copied.{plain_Copied}
use denote.Shadow.{makes_shadow}
use denote.Struct.Struct.{Struct}
use denote.Struct.Owning.{shape}
use denote.Memory.{part_at, cell_at, shared_of, hidden_shr}
use denote.Opens.{Shut}
use denote.Sharing.{said}
use denote.SharingLaws.{contraction}
use denote.Steps.{looks, shuts}
use denote.Struct.Laws.{RawPtr-laws}
use denote.Struct.Lending.{Lends}
use Rattle.std.specs.contracts.sync.atomic.AtomicU64.{the_row as word}
use Rattle.std.proofs.sync.atomic.AtomicU64.TheLaws.{the_row_laws as word_laws}
use Rattle.std.proofs.sync.atomic.AtomicU64.TheSendSync.{the_sync as word_syncs}
use Rattle.argus_memory.specs.Count.{lasts}
use Rattle.argus_memory.specs.contracts.count.Count as C

pub lasts_keyless : (p : Ptr) → Keyless (lasts p)
lasts_keyless (block_ptr b o) = word_syncs.shared (record {}) b o []
lasts_keyless null_ptr = tt

module _ {M : Type 1} {𝓤 : Ura M} (𝓛 : Logic 𝓤) where
  pub lasts_twice : (p : Ptr) → ent 𝓤 (sem 𝓛 (lasts p)) (sep 𝓤 (sem 𝓛 (lasts p)) (sem 𝓛 (lasts p)))
  lasts_twice (block_ptr b o) = contraction 𝓛 (shared_of word (record {}) b o) (word_laws.shr_laws (record {}) b o) []
  lasts_twice null_ptr = never_e 𝓤 _

  pub lasts_lends : (p : Ptr) (l : Lft) → Lends 𝓛 (lasts p) (said (lasts p)) l
  lasts_lends p l κ ts inc sp =
      let P : Fml = lasts p in
      let back : SProp 𝓤 = 𝓛.H.⇛ (sep 𝓤 (𝓛.A.bor κ P) (lfts 𝓛 ts)) in
      qed 𝓛 (‵ (fbor κ P) ∷ raw (lfts 𝓛 ts) ∷ []) ∵ updating ! $
      use2 𝓛 (later (‵ P ⊛ raw (wand 𝓤 (sem 𝓛 P) back))) (𝓛.more.bor_acc_by κ ts P sp) $ await ! tt $ split ! $
      use1 𝓛 (‵ P ⊛ ‵ P) (lasts_twice p) $ split ! $ move ! (0 ∷ 2 ∷ []) $
      use2 𝓛 (later (‵ (fbor κ P) ⊛ raw (lfts 𝓛 ts))) (apply∗ 𝓤 (sem 𝓛 P) back) $ await ! tt $ split ! $ drop ! $
      move ! (1 ∷ 0 ∷ []) $ now ! $ done !

module _ {M : Type 1} {𝓤 : Ura M} {𝓛 : Logic 𝓤} {K : Type 0} {Γ : List (Item 𝓤)} {G : Goal 𝓤 𝓛.H} where
  -- a pointer in a struct is looked at through a `&`, and the look is ended
  pub pointer_in : K → Soaks G → {κ : Lft} {q : Share} (p : Ptr) (b at : ℕ) → ((part : Share)
      → Seq K 𝓛 (‵ (fat part ty_ptr b at (ptr_val p)) ∷ Shut 𝓛 κ q (part_at RawPtr part p b at) ∷ Γ) G)
      → Seq K 𝓛 (‵ (hidden_shr RawPtr κ p b at) ∷ ‵ (flft κ q) ∷ Γ) G
  pointer_in t z p b at k =
      looks t z RawPtr (plain_Copied 𝓛 Ptr coded_ptr (ty_ptr ∷ []) ptr_own rawptr_pure ptr_val RawPtr-laws.tells).opens
      p b at (λ part vs. move t (1 ∷ []) $ feq_l t (λ e.
      rewrite t 0 (λ (us : List Val). ‵ (cell_at part RawPtr.mir us b at)) e refl $ move t (2 ∷ []) $ drop t $ k part))

  pub pointer_out : K → Soaks G → {κ : Lft} {q part : Share} (p : Ptr) (b at : ℕ) → Step K 𝓛 (‵ (flft κ q) ∷ Γ) G
      (‵ (fat part ty_ptr b at (ptr_val p)) ∷ Shut 𝓛 κ q (part_at RawPtr part p b at) ∷ Γ) G
  pointer_out t z {part = part} p b at = step (λ s.
      feq_i t (List Val) (ptr_val p ∷ []) (ptr_val p ∷ []) refl $ move t (1 ∷ 0 ∷ []) $
      shuts t z RawPtr part p (ptr_val p ∷ []) b at $ s)

abbrev pub count_val : Ptr → Val
count_val p = vstruct (vcons (ptr_val p) vnil)

pub count_made : {M : Type 1} {𝓤 : Ura M} (𝓛 : Logic 𝓤) (p : Ptr)
    → ent 𝓤 (sem 𝓛 (lasts p)) (sem 𝓛 (C.the_row.own_val (record { at = p }) (count_val p ∷ [])))
count_made 𝓛 p =
    let F : Fml = (Struct (shape C.the_type)).own_val (p, tt) (count_val p ∷ []) in
    qed 𝓛 (‵ (lasts p) ∷ []) ∵
    use0 𝓛 (‵ F) (makes_shadow 𝓛 F (λ vss. (tt, (tt, tt))) ((ptr_val p ∷ [], tt), (refl, (refl, tt)))) $ done !
