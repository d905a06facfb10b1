-- What a guardian tells of its objects is what its journal says.
use Rattle.std.proofs.Common.{Bool, IsTrue, List, cond, None, Some, [], ap, false, length, map, refl, reverse, sym}
use Rattle.std.proofs.{Common.{true, ℕ, ◌++◌, ◌∙◌, ◌∷◌, ◌≡◌, ◌↔◌, arith}, lemmas.List.{append-nil, append_assoc}}
use Rattle.std.{proofs.lemmas.{List.reverse-append, Bool.Decides.nat_tests}, specs.Prelude.{nat_lt, slice_index_or}}
use Rattle.argus_contents.specs.Answer.{flag}
use Rattle.argus_entries.specs.{Reply.{PlainReply, answered, refused}, declared.refusal.Refusal.Refusal}
use Rattle.argus_core.specs.{GuardianState.{StateInvariant, journal_view_of}, Objects.{version_pair, where_declared}}
use Rattle.argus_core.specs.declared.engine.atomic_object.AtomicObject.{AtomicObject}
use Rattle.argus_core.{specs.declared.engine.guardian_state.GuardianState.GuardianState, proofs.Accesses.count}
use Rattle.argus_journal.specs.{Events.history, LegalJournal.{entries_in, opening_in}}
use Rattle.argus_refinement.specs.CellRefinement.{IsCell}
use Rattle.argus_objects.specs.Object.{PlainVersion, versions_newest_first, plain_version}
use Rattle.argus_objects.specs.declared.version.Version.{Version}
use Rattle.argus_refinement.specs.CellRefinement as laws

told_both : (xs ys : List PlainVersion)
    → laws.numbered_versions (xs ++ ys) ≡ laws.numbered_versions ys ++ laws.numbered_versions xs
told_both [] ys = sym (append-nil (laws.numbered_versions ys))
told_both (x ∷ xs) ys = grind (arith, nat_tests, append_assoc, told_both xs ys)

-- the versions in their order are those of the stack from its other end
pub in_order : (vs : List Version) → laws.numbered_versions (versions_newest_first vs) ≡ map version_pair vs
in_order [] = refl
in_order (v ∷ vs) =
    ap laws.numbered_versions (reverse-append (plain_version v ∷ []) (map plain_version vs))
    ∙ told_both (reverse (map plain_version vs)) (plain_version v ∷ [])
    ∙ ap (λ l. version_pair v ∷ l) (in_order vs)

module _ (g : GuardianState) (k : StateInvariant g) (o : ℕ) (x d : AtomicObject)
    (low : true ≡ nat_lt o (length g.objects.items)) (e : x ≡ slice_index_or g.objects.items o d) where
  -- the object that was found has its cell
  pub cell_there : IsCell (opening_in g.journal) (history (opening_in g.journal) (entries_in g.journal)) g.tree o x.cell
  cell_there = grind (arith, nat_tests)

  -- a fact of an object that was found is told
  pub there : {A : Type 0} (fact : A) → Some fact ≡ where_declared (journal_view_of g) o fact
  there fact =
      ap (λ b. cond b (Some fact) None) (low ∙ ap (λ n. nat_lt o n) (sym (count _ _ _ _ _ k (record { 0 = 0 }) o)))

-- a call that is refused isn't granted
pub not_granted : (reply : PlainReply) (why : Refusal) → reply ≡ refused why
    → IsTrue false ↔ (reply ≡ answered (flag true))
not_granted reply why e = (λ f. cc, λ q. cc)

-- a test that is answered b is granted where b is true
pub granted_where : (reply : PlainReply) (b : Bool) → answered (flag b) ≡ reply
    → IsTrue b ↔ (reply ≡ answered (flag true))
granted_where reply b e = grind (arith, nat_tests)
