-- Entries that don't write an object leave its content.
use Rattle.std.proofs.Common.{Bool, List, None, Option, Some, ap, arith, cond, inl, inr, reverse, suc, sym, zero, ℕ}
use Rattle.std.proofs.{Common.{◌+◌, ◌-◌, ◌∙◌, ◌≡◌, ◌≤◌}, lemmas.{Bool.Decides.nat_tests, Option.slice_get_cases}}
use Rattle.std.specs.Prelude.{slice_get, ◌&&◌, ◌==◌}
use Rattle.argus_actions.specs.declared.action_id.ActionId.{ActionId}
use Rattle.argus_audit.{specs.{Places.first_entries, Writes.{Skips, written_by}}, proofs.Places.{no_more, one_more}}
use Rattle.argus_contents.specs.{Content.PlainContent, declared.obj_id.ObjId.ObjId}
use Rattle.argus_entries.specs.{Call.PlainCall, Entry.PlainEntry, Reply.PlainReply}
use Rattle.argus_journal.specs.{Entries.content_after_call, Opening.Opening, Replaying.{counts_by_entries, replayed}}
use Rattle.argus_journal.specs.Replaying.{writer_by, written_if}

-- the action, if the object is this one
abbrev pub writer_at : ℕ → Option (ActionId × ObjId) → Option ActionId
writer_at o None = None
writer_at o (Some write) = cond (write.1.0 == o) (Some write.0) None

writer_if : (o i : ℕ) (b : Bool) (a : ActionId)
    → cond ((i == o) && b) (Some a) None ≡ writer_at o (cond b (Some (a, record { 0 = i })) None)
writer_if o i b a = grind (arith)

pub writer_is : (c : PlainCall) (r : PlainReply) (o : ℕ) → writer_by c r o ≡ writer_at o (written_by c r)
writer_is c r o = grind (arith, nat_tests, writer_if)

module _ (s : Opening) (j : List PlainEntry) (reader : Option ActionId) (o : ℕ) where
  abbrev counts : ℕ → Bool
  counts a = counts_by_entries s.first_action j reader a

  -- what this many entries leave
  abbrev left : ℕ → Option PlainContent
  left n = replayed s j reader o (first_entries j n)

  -- an entry that doesn't write the object
  pub unwritten_at : (n : ℕ) (e : PlainEntry) → slice_get (reverse j) n ≡ Some e → writer_by e.call e.reply o ≡ None
      → left (n + 1) ≡ left n
  unwritten_at n e is none =
      ap (replayed s j reader o) (one_more j n e is)
      ∙ ap (λ w. written_if counts (content_after_call e.call) w (left n)) none

  passed : (n : ℕ) → ((e : PlainEntry) → slice_get (reverse j) n ≡ Some e → writer_by e.call e.reply o ≡ None)
      → left (n + 1) ≡ left n
  passed n none =
      elim ((slice_get_cases (reverse j) n).1) [
        | inl here ↦ unwritten_at n here.0 here.2 (none here.0 here.2)
        | inr past ↦ ap (replayed s j reader o) (no_more j n past.1)
      ]

  skipped : (k from : ℕ) → Skips (reverse j) o from (from + k) → left (from + k) ≡ left from
  skipped zero from skips = let same : from + 0 ≡ from = omega arith in ap left same
  skipped (suc k) from skips = grind (arith, nat_tests, passed (from + k), skipped k from)

  pub skipped_to : (from to : ℕ) → from ≤ to → Skips (reverse j) o from to → left to ≡ left from
  skipped_to from to le skips = grind (arith, nat_tests, skipped (to - from) from)

  -- an entry that writes it, by an action that counts or not
  pub written_at : (n : ℕ) (e : PlainEntry) (a : ActionId) (b : Bool) → slice_get (reverse j) n ≡ Some e
      → writer_by e.call e.reply o ≡ Some a → b ≡ counts_by_entries s.first_action j reader a.0
      → left (n + 1) ≡ cond b (content_after_call e.call (left n)) (left n)
  written_at n e a b is w counted =
      ap (replayed s j reader o) (one_more j n e is)
      ∙ ap (λ x. written_if counts (content_after_call e.call) x (left n)) w
      ∙ ap (λ x. cond x (content_after_call e.call (left n)) (left n)) (sym counted)
