-- Each call that a host makes can be read, and a listing of such calls is taken back.
use Rattle.std.proofs.Common.{All, List, [], ap, append_assoc, append-nil, arith, drop, inl, inr, length, refl, subst}
use Rattle.std.proofs.Common.{sym, take, ℕ, ◌++◌, ◌<◌, ◌^◌, ◌∙◌, ◌∷◌, ◌≡◌, ◌≢◌, ◌≤◌}
use Rattle.std.proofs.lemmas.List.Elements.{All-filter, All-head, All-map, All-nil, All-push, All-tail, All-take}
use Rattle.std.proofs.{lemmas.List.take-append-drop, Math.Seq.take-append_seam}
use Rattle.argus_values.specs.contents_declared.limits.TheConstants.{MAX_VALUE_DEPTH}
use Rattle.argus_guardian.specs.AbortingLive.{IsPartlyAborted, after_aborts, live_topactions, live_without_parent}
use Rattle.argus_guardian.specs.{Calls.IsReadableCall, JournalText.journal_text, SoundFront.sound_front}
use Rattle.argus_guardian.specs.ResumeLaws.{GuardiansAreWhole, IsListable, ListingsAreTakenBack, ListingsHaveNoFault}
use Rattle.argus_guardian.specs.{Taking.{IsFaulty, IsTorn}, resume_declared.line_fault.LineFault.LineFault}
use Rattle.argus_guardian.specs.resume_declared.line_fault.LineFault.TheVariants as fault
use Rattle.argus_guardian.specs.resume_declared.taken_end.TakenEnd.TheVariants as taken_end
use Rattle.argus_journal.proofs.Within.{actions_within}
use Rattle.argus_journal.specs.{Call.{PlainCall, abort}, Events.history, JournalView.{JournalView, after}, Legal.Legal}
use Rattle.argus_journal.specs.{Numbering.in_program, Opening.KeepsNumbers}
use Rattle.argus_model.specs.Event.{Began}
use Rattle.argus_model.specs.History.{History, Opened, begun_actions, next_action, ◌▹◌}
use Rattle.argus_embed.specs.{Embedded.EmbeddedState, Listed.{CanBeRead, IsNoFault, IsTakenBack, IsWhole}}
use Rattle.argus_embed.specs.{Resuming.{IsEndOf, IsTextTaken}, declared.text_end.TextEnd.TextEnd}
use Rattle.argus_embed.specs.declared.text_taken.TextTaken.{TextTaken}
use Rattle.argus_embed.specs.declared.text_end.TextEnd.TheVariants as text_end

-- EACH CALL CAN BE READ

one_read : (journal : JournalView) (call : PlainCall) → CanBeRead journal → IsReadableCall call
    → CanBeRead (after journal call)
one_read journal call can readable = record {
  opening = can.opening;
  calls = (
    record { well_formed = ((MAX_VALUE_DEPTH, readable.0), readable.1); depth = λ why is. readable.0 },
    can.calls,
  );
}

-- a call more
pub call_read : (old new : JournalView) (call : PlainCall) → new ≡ after old call → CanBeRead old → IsReadableCall call
    → CanBeRead new
call_read old new call is can readable = subst CanBeRead (sym is) (one_read old call can readable)

-- ABORTS

-- the program's number is within 32 bits
abbrev IsWithin : ℕ → Type 0
IsWithin a = a < 2 ^ 32

begun_within : {V : Type 0} (h : History V) → next_action h ≤ 2 ^ 32
    → All (λ x. IsWithin (in_program x)) (begun_actions h)
begun_within (Opened k) le = All-nil _
begun_within (Began from ▹ h) le =
    All-push (λ x. IsWithin (in_program x)) (begun_actions h) (next_action h) (begun_within h (omega (arith, le)))
    (omega (arith, le))
begun_within (_ ▹ h) le = begun_within h le

aborts_read : (journal : JournalView) (actions : List ℕ) → CanBeRead journal → All IsWithin actions
    → CanBeRead (after_aborts journal actions)
aborts_read journal [] can within = can
aborts_read journal (a ∷ actions) can within =
    aborts_read (after journal (abort a)) actions
    (one_read journal (abort a) can (All-head IsWithin a actions within, tt)) (All-tail IsWithin a actions within)

module _ (old : JournalView) (can : CanBeRead old) (legal : Legal old.opening old.entries)
    (limits : KeepsNumbers old.opening) where
  live_within : All IsWithin (live_topactions old)
  live_within =
      let h = history old.opening old.entries in
      let most = actions_within old.opening old.entries limits.actions legal in
      All-map IsWithin in_program (live_without_parent h)
      (All-filter _ (λ x. IsWithin (in_program x)) (begun_actions h) (begun_within h (omega (arith, most))))

  -- all live actions were aborted
  pub all_aborted_read : (new : JournalView) → new ≡ after_aborts old (live_topactions old) → CanBeRead new
  all_aborted_read new is = subst CanBeRead (sym is) (aborts_read old (live_topactions old) can live_within)

  -- some of them
  pub part_aborted_read : (new : JournalView) → IsPartlyAborted old new → CanBeRead new
  part_aborted_read new part =
      let within = All-take IsWithin (length part.ended) _ (subst (All IsWithin) part.in_turn live_within) in
      subst CanBeRead (sym part.journal)
      (aborts_read old part.ended can (subst (All IsWithin) (take-append_seam part.ended (live_topactions new)) within))

-- THE LISTING

-- an end that isn't out of memory
data Ended (end : TextEnd) (journal : JournalView) (left : List ℕ) : Type 0 where
  whole : end ≡ text_end.Whole → left ≡ [] → Ended end journal left
  torn : end ≡ text_end.Torn → IsTorn left → Ended end journal left
  faulty : (f : LineFault) → IsFaulty journal left f → Ended end journal left

ended : (end : TextEnd) (old new : EmbeddedState) (left : List ℕ) → IsEndOf end old new left
    → end ≢ text_end.OutOfMemory → Ended end new.taken left
ended text_end.Whole old new left is n = whole refl is.0
ended text_end.Torn old new left is n = torn refl is.0
ended text_end.OutOfMemory old new left is n = absurd (n refl)
ended (text_end.NoText at) old new left is n = faulty (fault.NoText at) is.0
ended text_end.NotAnOpening old new left is n = faulty fault.NotAnOpening is.0
ended (text_end.NoLine at) old new left is n = faulty (fault.NoLine at) is.0
ended (text_end.NotNext wanted) old new left is n = faulty fault.NotNext is.0.faulty
ended text_end.NotSound old new left is n = faulty fault.NotSound is.0
ended text_end.NotTheReply old new left is n = faulty (fault.NotTheReply is.reply) is.faulty

module _ (back : ListingsAreTakenBack) (sound : GuardiansAreWhole) (none : ListingsHaveNoFault)
    (journal : JournalView) (listable : IsListable journal) where
  -- the listing is what was taken, what is left of the piece, and the rest
  parts : (old new : EmbeddedState) (piece rest : List ℕ) (taken : TextTaken)
      → journal_text journal ≡ journal_text old.taken ++ (piece ++ rest) → IsTextTaken old new piece taken
      → journal_text journal ≡ journal_text new.taken ++ (drop taken.bytes piece ++ rest)
  parts old new piece rest taken listing is =
      let first = take taken.bytes piece in
      let left = drop taken.bytes piece in
      listing ∙ ap (λ (x : List ℕ). journal_text old.taken ++ (x ++ rest)) (sym (take-append-drop taken.bytes piece))
      ∙ ap (λ (x : List ℕ). journal_text old.taken ++ x) (append_assoc first left rest)
      ∙ sym (append_assoc (journal_text old.taken) first (left ++ rest))
      ∙ ap (λ (x : List ℕ). x ++ (left ++ rest)) (sym is.longer)

  module _ (old new : EmbeddedState) (piece rest : List ℕ) (taken : TextTaken)
      (listing : journal_text journal ≡ journal_text old.taken ++ (piece ++ rest))
      (is : IsTextTaken old new piece taken) where
    abbrev left : List ℕ
    left = drop taken.bytes piece

    all : rest ≡ [] → journal_text journal ≡ journal_text new.taken ++ left
    all end =
        parts old new piece rest taken listing is ∙ ap (λ (x : List ℕ). journal_text new.taken ++ (left ++ x)) end
        ∙ ap (λ (x : List ℕ). journal_text new.taken ++ x) (append-nil left)

    told : Ended taken.end new.taken left → IsNoFault taken.end × (rest ≡ [] → IsWhole journal taken.end new)
    told (whole end nothing) = (
      inl end,
      λ last.
          let same = (back new.taken left taken_end.Whole is.readable nothing (λ e. cc) journal listable (all last)).1 in
          record {
            whole = end;
            taken = same;
            resumed = ap (λ (j : JournalView). sound_front j) same ∙ sound journal listable;
          },
    )
    told (torn end part) = (
      inr end,
      λ last.
          let same = (back new.taken left taken_end.Torn is.readable part (λ e. cc) journal listable (all last)).0 in
          absurd cc,
    )
    told (faulty f at) =
        absurd (none new.taken left f is.readable at journal rest listable (parts old new piece rest taken listing is))

  -- the journal's listing is taken back, in whatever pieces
  pub taken_back : IsTakenBack journal
  taken_back old new piece rest taken listing is n =
      told old new piece rest taken listing is (ended taken.end old new (drop taken.bytes piece) is.end n)
