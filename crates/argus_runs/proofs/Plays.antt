-- The journal that a run leaves is the journal before it and the entries of the run.
use Rattle.std.proofs.Common.{◌≡◌, List, [], ◌∷◌, ◌++◌, None, sym, ◌∙◌, ap, append_assoc, cond, refl}
use Rattle.std.proofs.lemmas.List.{append-nil}
use Rattle.argus_entries.specs.{Decided.call_decided, Entry.PlainEntry}
use Rattle.argus_journal.specs.JournalView.{JournalView, entry_of}
use Rattle.argus_language.specs.Script.{PlainScript}
use Rattle.argus_runs.specs.{Adding.{asked_grows, prefix_trans, prefix_refl, extended_more}, Laws.{PlaysTell, RunsEnd}}
use Rattle.argus_runs.specs.{RunOutcome.{RunOutcome, finished, mismatched, ◌>>=◌}, Running.run_tops}
use Rattle.argus_runs.specs.Played.{reply_from_journal, play, reply_from_entries}
use Rattle.argus_runs.specs.RunPrefix.{IsJournalPrefix, IsRunPrefix, extended}
use Rattle.argus_runs.proofs.{Growth.{ExtendingCalls, tops_grow}, Simulation.{Simulates, tops_related}}

-- entries that are told
abbrev Es : Type 0
Es = List PlainEntry

-- The journal has some entries more, and whoever is told these and others comes to the same.
abbrev Same : {X : Type 0} → JournalView → RunOutcome JournalView X → (Es → RunOutcome Es X) → Type 0
Same j (finished x k) n = (made : Es) × (k ≡ extended j made) × ((rest : Es) → n (made ++ rest) ≡ finished x rest)
Same j mismatched n = ⊥

same_after : {Y : Type 0} (j k : JournalView) (made : Es) → k ≡ extended j made → (r : RunOutcome JournalView Y)
    (g n : Es → RunOutcome Es Y) → Same k r g → ((rest : Es) → n (made ++ rest) ≡ g rest) → Same j r n
same_after j k made e (finished y l) g n (later, d, h) p = (
  made ++ later,
  d ∙ ap (λ z. extended z later) e ∙ sym (extended_more j made later),
  λ rest. ap n (append_assoc made later rest) ∙ p (later ++ rest) ∙ h rest,
)
same_after j k made e mismatched g n q p = absurd q

same_then : {X Y : Type 0} (j : JournalView) (m : RunOutcome JournalView X) (n : Es → RunOutcome Es X)
    (f : X → JournalView → RunOutcome JournalView Y) (g : X → Es → RunOutcome Es Y) → Same j m n
    → ((x : X) (k : JournalView) → Same k (f x k) (g x))
    → Same j (m >>= f) (λ s. n s >>= g)
same_then j (finished x k) n f g (made, e, h) q =
    same_after j k made e (f x k) (g x) (λ s. n s >>= g) (q x k) (λ rest. ap (λ z. z >>= g) (h rest))
same_then j mismatched n f g p q = absurd p

-- a journal's replies are those of the entries that it adds
same_runs : Simulates JournalView Es reply_from_journal reply_from_entries (λ X j m n. Same j m n)
same_runs = record {
  stays = λ X x j. ([], refl, λ rest. refl);
  on = λ X Y j m n f g p q. same_then j m n f g p q;
  call = λ c j. let e : PlainEntry = entry_of j c in
      (e ∷ [], refl, λ rest. ap (λ b. cond b (finished e.reply rest) mismatched) ((call_decided c c).1 refl));
}

tops_same : (script : PlainScript) (j : JournalView)
    → Same j (play script j) (run_tops Es reply_from_entries None script.objects.shapes [] script.parts)
tops_same script j = tops_related JournalView Es reply_from_journal reply_from_entries (λ X j m n. Same j m n) same_runs
    None tt script.objects.shapes [] script.parts j

tells_of : {X : Type 0} (j : JournalView) (x : X) (k : JournalView) (m : RunOutcome JournalView X)
    (n : Es → RunOutcome Es X) → m ≡ finished x k → Same j m n
    → (made : Es) × (k ≡ extended j made) × (n made ≡ finished x [])
tells_of j x k (finished y l) n e (made, d, h) = let p : k ≡ l = cc in let q : x ≡ y = cc in
    (made, p ∙ d, ap n (sym (append-nil made)) ∙ h [] ∙ ap (λ z. finished z []) (sym q))
tells_of j x k mismatched n e s = absurd s

pub plays-tell : PlaysTell
plays-tell j script k (ns, e) =
    let t = tells_of j ns k (play script j) (run_tops Es reply_from_entries None script.objects.shapes [] script.parts)
    e (tops_same script j) in
    (t.0, t.1, (ns, t.2))

ends : {X : Type 0} (is_prefix : JournalView → JournalView → Type 0) (j : JournalView) (m : RunOutcome JournalView X)
    → IsRunPrefix is_prefix j m → (k : JournalView) × (x : X) × (m ≡ finished x k)
ends is_prefix j (finished x k) p = (k, x, refl)
ends is_prefix j mismatched p = absurd p

pub runs-end : RunsEnd
runs-end j script =
    let l : ExtendingCalls JournalView IsJournalPrefix reply_from_journal None = record {
      no_arm_runner = refl;
      same = prefix_refl;
      on = prefix_trans;
      call_extends = asked_grows;
    } in
    let t = ends IsJournalPrefix j (play script j) (tops_grow l script.objects.shapes [] script.parts j) in
    (t.0, (t.1, t.2))
