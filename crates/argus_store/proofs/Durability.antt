-- Over any run of calls, commits, crashes and openings: what was acknowledged is in the log, and in each guardian.
use Rattle.std.proofs.Common.{◌≡◌, ◌⊎◌, ℕ, ◌++◌, List, [], ◌∷◌, refl, sym, ap, subst, arith, ◌∙◌, inl, inr}
use Rattle.std.proofs.Common.{◌+◌, append_assoc, length}
use Rattle.std.proofs.lemmas.List.{length-append}
use Rattle.argus_journal.specs.{Call.{PlainCall, commit}, Entry.PlainEntry, Legal.Legal, Opening.Opening}
use Rattle.argus_journal.specs.JournalView.{JournalView, after, entry_of}
use Rattle.argus_guardian.specs.{JournalText.journal_text, ReadableCalls.HaveReadableCalls}
use Rattle.argus_guardian.specs.ResumeLaws.{IsListable, ListingsAreResumed}
use Rattle.sqlite.specs.{Held.{Held, state}, Store.Ghosts, Tree.Trees}
use Rattle.argus_store.specs.{Chain.listing_of, End.with_lines, Journal.{HoldsLog, Journal}, Store.HasLog}
use Rattle.argus_store.specs.Kept.{IsAcknowledged, KeptState, LeavesFront}
use Rattle.argus_store.specs.Durability.{Begins, CanCall, HasCommit, IsDurable, IsFound, IsFront, MayLeave, Moment, Reopens}
use Rattle.argus_store.specs.Durability.{Runs, moment, nothing, calls, commits, reopens}

-- ---- fronts

whole : (j : JournalView) → IsFront j j
whole j = record { opening = refl; since = []; all = refl }

one_more : (j k : JournalView) (call : PlainCall) → IsFront j k → IsFront j (after k call)
one_more j k call front = record {
  opening = front.opening;
  since = entry_of k call ∷ front.since;
  all = ap (λ es. entry_of k call ∷ es) front.all;
}

joined : (j k l : JournalView) → IsFront j k → IsFront k l → IsFront j l
joined j k l one two = record {
  opening = two.opening ∙ one.opening;
  since = two.since ++ one.since;
  all = two.all ∙ ap (λ es. two.since ++ es) one.all ∙ sym (append_assoc two.since one.since j.entries);
}

readable_front : (since es : List PlainEntry) → HaveReadableCalls (since ++ es) → HaveReadableCalls es
readable_front [] es h = h
readable_front (e ∷ since) es h = readable_front since es h.1

legal_front : (s : Opening) (since es : List PlainEntry) → Legal s (since ++ es) → Legal s es
legal_front s [] es h = h
legal_front s (e ∷ since) es h = legal_front s since es h.1

listable_front : (j k : JournalView) → IsFront j k → IsListable k → IsListable j
listable_front j k front is =
    let same = sym front.opening in
    let count : length k.entries ≡ length front.since + length j.entries =
    ap length front.all ∙ length-append front.since j.entries in
    record {
      opening = rw same is.opening;
      calls = readable_front front.since j.entries (rw front.all at is.calls);
      legal = legal_front j.opening front.since j.entries (rw (front.opening, front.all) at is.legal);
      sound = rw same is.sound;
      numbers = omega (arith, is.numbers, count, ap (λ (s : Opening). s.first_entry) front.opening);
    }

-- ---- what is so at each moment

record Holds (m : Moment) : Type 0 where
  durable : IsDurable m
  listable : IsListable m.made

at_first : (m : Moment) → Begins m → Holds m
at_first m begins = record {
  durable = record {
    has = m.made;
    listed = begins.listed;
    acknowledged = rw begins.acknowledged (whole m.made);
    made = whole m.made;
  };
  listable = begins.listable;
}

after_call : (m : Moment) (call : PlainCall) → CanCall m call → Holds m
    → Holds (moment (after m.made call) m.acknowledged m.log)
after_call m call can holds = record {
  durable = record {
    has = holds.durable.has;
    listed = holds.durable.listed;
    acknowledged = holds.durable.acknowledged;
    made = one_more holds.durable.has m.made call holds.durable.made;
  };
  listable = can;
}

after_commit : (m : Moment) (action : ℕ) (log : Journal) → HasCommit m action log
    → Holds (moment (after m.made (commit action)) (after m.made (commit action)) log)
after_commit m action log has = record {
  durable = record {
    has = after m.made (commit action);
    listed = has.1;
    acknowledged = whole _;
    made = whole _;
  };
  listable = has.0;
}

module _ (resumed : ListingsAreResumed) where
  -- the guardian that is resumed from a listing has its journal
  found : (m n : Moment) (r : Reopens m n) (has : JournalView) → IsListable has
      → listing_of n.log ≡ journal_text has → n.made ≡ has
  found m n r has listable listed =
      r.made ∙ (resumed r.has r.failed r.resumed has listable (rw listed at r.resumes) r.memory r.reads).1

  module _ (m n : Moment) (holds : Holds m) (r : Reopens m n) where
    abbrev old : IsDurable m
    old = holds.durable

    found_in : (has : JournalView) → IsListable has → listing_of n.log ≡ journal_text has
        → IsFront m.acknowledged has
        → (IsFront has m.made ⊎ ((action : ℕ) × (has ≡ after m.made (commit action))))
        → Holds n × IsFound m n
    found_in has listable listed acknowledged made =
        let is = found m n r has listable listed in (
          record {
            durable = record {
              has = has;
              listed = listed;
              acknowledged = rw r.acknowledged acknowledged;
              made = rw is (whole has);
            };
            listable = rw is listable;
          },
          record { acknowledged = rw is acknowledged; made = rw is made },
        )

    after_reopening : Holds n × IsFound m n
    after_reopening = elim r.left [
      | inl same ↦ found_in old.has (listable_front old.has m.made old.made holds.listable)
          (ap listing_of same ∙ old.listed) old.acknowledged (inl old.made)
      | inr last ↦ found_in (after m.made (commit last.0)) last.1.0 last.1.1
          (one_more m.acknowledged m.made (commit last.0) (joined m.acknowledged old.has m.made old.acknowledged old.made))
          (inr (last.0, refl))
    ]

  all_hold : {m n : Moment} → Begins m → Runs m n → Holds n
  all_hold begins (nothing m) = at_first m begins
  all_hold begins (calls m n call runs can) = after_call n call can (all_hold begins runs)
  all_hold begins (commits m n action log runs has) = after_commit n action log has
  all_hold begins (reopens m n o runs r) = (after_reopening n o (all_hold begins runs) r).0

  pub durable : (m n : Moment) → Begins m → Runs m n → IsDurable n
  durable m n begins runs = (all_hold begins runs).durable

  pub found_again : (m n o : Moment) → Begins m → Runs m n → Reopens n o → IsFound n o
  found_again m n o begins runs r = (after_reopening n o (all_hold begins runs) r).1

-- ---- what the clauses of `Kept` say, as steps

module _ {S : Type 0} (g : Ghosts S) (old : KeptState S) (acknowledged : JournalView) (action : ℕ) (j : Journal) where
  abbrev pub then : JournalView
  then = after old.journal (commit action)

  pub commit_made : (now : KeptState S) → now.journal ≡ then → IsListable now.journal
      → IsAcknowledged g old.name old.end now j
      → (log : Journal) × HasLog (state g now.store) log
      × HasCommit (moment old.journal acknowledged j) action log
  commit_made now is listable it = (
    with_lines j old.name old.end it.lines,
    it.has.kept.log,
    (subst IsListable is listable, it.has.whole ∙ ap journal_text is),
  )

  pub left : (store : Held S) → IsListable then → LeavesFront g old store then j
      → (db : Trees) → (state g store).may_leave db
      → (log : Journal) × HoldsLog db log × MayLeave (moment old.journal acknowledged j) log
  left store listable leaves db may = elim (leaves db may) [
    | inl before ↦ (j, before, inl refl)
    | inr whole ↦ (with_lines j old.name old.end whole.0, whole.2, inr (action, (listable, whole.1)))
  ]
