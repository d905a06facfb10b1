-- Heads and links, when one more entry has been linked.
use Rattle.std.proofs.Common.{List, None, Option, Some, ap, arith, inl, inr, length, refl, set, subst, sym, ℕ, ◌+◌, ◌<◌}
use Rattle.std.proofs.{Common.{◌∙◌, ◌≡◌, ◌≢◌, ◌≤◌}, lemmas.Bool.{Decides.nat_tests, cases_eq, false≢true}}
use Rattle.std.proofs.lemmas.Option.{slice_get_within, get_or_from_slice_get, none-some, slice_get_cases}
use Rattle.std.proofs.lemmas.{Option.slice_get_read, List.{get_or-set_other, get_or-set_same, length-set}}
use Rattle.std.specs.{Option.option_map, Prelude.{is_some, slice_get}}
use Rattle.argus_actions.specs.declared.action_id.ActionId.{ActionId}
use Rattle.argus_audit.{specs.Writes.{AreHeads, AreLinks, IsWrite, Skips, written_by}, proofs.Visits.writer_at}
use Rattle.argus_audit.proofs.Visits.{writer_is}
use Rattle.argus_contents.specs.declared.obj_id.ObjId.{ObjId}
use Rattle.argus_entries.specs.Entry.{PlainEntry}
use Rattle.argus_journal.specs.Replaying.{writer_by}

-- what is read where something was stored, and elsewhere

got_same : (xs : List ℕ) (at v x : ℕ) → slice_get (set xs at v) at ≡ Some x → x ≡ v
got_same xs at v x e =
    let low = subst (λ n. at < n) (length-set xs at v) (slice_get_within (set xs at v) at x e) in
    sym (get_or_from_slice_get (set xs at v) at x x e) ∙ get_or-set_same xs at v x low

got_other : (xs : List ℕ) (at i v x : ℕ) → i ≢ at → slice_get (set xs at v) i ≡ Some x → slice_get xs i ≡ Some x
got_other xs at i v x n e =
    let low = subst (λ m. i < m) (length-set xs at v) (slice_get_within (set xs at v) i x e) in
    slice_get_read xs (length xs) i x refl low
    (sym (get_or_from_slice_get (set xs at v) i x x e) ∙ get_or-set_other xs at i v x n)

-- who writes, by the object that is written

unwritten : (o : ℕ) (w : Option (ActionId × ObjId)) → option_map (λ (write : ActionId × ObjId). write.1) w ≡ None
    → writer_at o w ≡ None
unwritten o w e = grind (arith)

written_other : (o : ℕ) (k : ObjId) (w : Option (ActionId × ObjId))
    → option_map (λ (write : ActionId × ObjId). write.1) w ≡ Some k → o ≢ k.0 → writer_at o w ≡ None
written_other o k w e n = grind (arith, nat_tests)

module _ (xs : List PlainEntry) where
  pub joined : (o from mid to : ℕ) → Skips xs o from mid → Skips xs o mid to → Skips xs o from to
  joined o from mid to first second i e low high is = grind (arith, nat_tests)

  pub nothing : (o from to : ℕ) → to ≤ from → Skips xs o from to
  nothing o from to le i e low high is = absurd (omega (arith, le, low, high))

  past_all : (o from to : ℕ) → length xs ≤ from → Skips xs o from to
  past_all o from to past i e low high is = grind (arith, nat_tests, slice_get_within)

  -- at first nothing is linked

  -- the entry at this place writes this object, if any
  module _ (place : ℕ) (q : Option ObjId)
      (found : (e : PlainEntry) → slice_get xs place ≡ Some e
      → q ≡ option_map (λ (write : ActionId × ObjId). write.1) (written_by e.call e.reply)) where
    passed : (o : ℕ) → ((e : PlainEntry) → slice_get xs place ≡ Some e → writer_by e.call e.reply o ≡ None)
        → Skips xs o place (place + 1)
    passed o none i e low high is = grind (arith, nat_tests)

    passed_none : q ≡ None → (o : ℕ) → Skips xs o place (place + 1)
    passed_none n o = grind (arith, nat_tests, passed, writer_is, unwritten)

    none_other : (k : ObjId) → q ≡ Some k → (o : ℕ) → o ≢ k.0 → (e : PlainEntry) → slice_get xs place ≡ Some e
        → writer_by e.call e.reply o ≡ None
    none_other k s o n e is = grind (arith, nat_tests, writer_is, written_other)

    passed_other : (k : ObjId) → q ≡ Some k → (o : ℕ) → o ≢ k.0 → Skips xs o place (place + 1)
    passed_other k s o n = passed o (none_other k s o n)

    pub heads_passed : (heads : List ℕ) → q ≡ None → AreHeads xs (place + 1) heads → AreHeads xs place heads
    heads_passed heads n are o to is = joined o place (place + 1) to (passed_none n o) (are o to is)

    pub heads_short : (heads : List ℕ) (k : ObjId) → q ≡ Some k → slice_get heads k.0 ≡ None
        → AreHeads xs (place + 1) heads → AreHeads xs place heads
    heads_short heads k s short are o to is =
        joined o place (place + 1) to
        (passed_other k s o (λ same. none-some to (sym short ∙ ap (slice_get heads) (sym same) ∙ is))) (are o to is)

    pub heads_set : (heads : List ℕ) (k : ObjId) → q ≡ Some k → AreHeads xs (place + 1) heads
        → AreHeads xs place (set heads k.0 place)
    heads_set heads k s are o to is =
        elim (cases_eq o k.0) [
          | inl same ↦ grind (arith, nat_tests, got_same)
          | inr n ↦
              joined o place (place + 1) to (passed_other k s o n) (are o to (got_other heads k.0 o place to n is))
        ]

    -- a link from a place that has no entry of the object
    no_write : (k : ObjId) → q ≡ Some k → (o to : ℕ) → o ≢ k.0 → IsWrite xs o place → Skips xs o (place + 1) to
    no_write k s o to n written =
        elim ((slice_get_cases xs place).1) [
          | inl here ↦
              absurd (false≢true
              (sym (ap is_some (none_other k s o n here.0 here.2)) ∙ written here.0 here.2))
          | inr past ↦ let long = past.0 in past_all o (place + 1) to (omega (arith, long))
        ]

    pub links_set : (heads links : List ℕ) (k : ObjId) (v : ℕ) → q ≡ Some k → slice_get heads k.0 ≡ Some v
        → AreHeads xs (place + 1) heads → AreLinks xs links → AreLinks xs (set links place v)
    links_set heads links k v s got are linked i o to is written =
        elim (cases_eq i place) [
          | inl same ↦
              let here = got_same links place v to (subst (λ m. slice_get (set links place v) m ≡ Some to) same is) in
              let at_place = subst (λ m. IsWrite xs o m) same written in
              subst (λ m. Skips xs o (m + 1) to) (sym same)
              (elim (cases_eq o k.0) [
                | inl own ↦
                    subst (λ m. Skips xs m (place + 1) to) (sym own)
                    (subst (λ m. Skips xs k.0 (place + 1) m) (sym here) (are k.0 v got))
                | inr n ↦ no_write k s o to n at_place
              ])
          | inr n ↦ linked i o to (got_other links place i v to n is) written
        ]
