-- What a granted access leaves.
use Rattle.std.proofs.{Common.{List, Option, ap, false, sym, true, ◌+◌, ◌∙◌, ◌∷◌, ◌≡◌}, lemmas.Bool.and_parts}
use Rattle.std.specs.Prelude.{slice_index_or}
use Rattle.argus_actions.specs.declared.action_id.ActionId.{ActionId}
use Rattle.argus_contents.specs.{Change.{PlainChange, outcome}, Content.PlainContent, declared.obj_id.ObjId.ObjId}
use Rattle.argus_entries.specs.Entry.{PlainEntry}
use Rattle.argus_core.specs.{Accessing.{IsAccessEntry, IsAccessed, IsAltered, IsFree}, Moving.IsRead}
use Rattle.argus_core.specs.{StateRefinement.StateRefinesJournal, GuardianState.{StateInvariant, journal_view_of}}
use Rattle.argus_core.specs.declared.engine.atomic_object.AtomicObject.{AtomicObject}
use Rattle.argus_core.{specs.declared.engine.guardian_state.GuardianState.GuardianState, proofs.Accessed.parts_accessed}
use Rattle.argus_core.proofs.{Accesses.{acts, reads_agree}, Begun.kept_event, Ends.{shapes_kept, some_object}}
use Rattle.argus_journal.specs.{JournalView.reply_to, Entries.{entries, content_after_call}, Events.history}
use Rattle.argus_journal.{specs.{LegalJournal.{entries_in, opening_in}, Opening.model_opening}, proofs.Legal.lawful}
use Rattle.argus_refinement.proofs.{CellAccesses.{read_cell, written_cell}, CellHolders.may_read_is}
use Rattle.argus_refinement.proofs.CellSeen.{visible_is}
use Rattle.argus_model.specs.{Contents.sees, Event.Accessed}
use Rattle.argus_objects.specs.{CellChanges.changed, Object.holders, Rules.{all_above, may_read, may_write}}
use Rattle.argus_objects.specs.declared.holdings.Holdings.{Holdings}

-- the action is a reader, and the entry tells it
pub made_read : (p : GuardianState) (e : PlainEntry) (a : ActionId) (o : ObjId) (k : StateInvariant p)
    (objects' : List AtomicObject) (holdings' : Holdings)
    → e.reply ≡ reply_to (journal_view_of p) e.call
    → IsFree p.tree p.objects.items a o (λ cell. may_read p.tree cell a) → IsAccessEntry p e a o false
    → IsAccessed (IsRead p.tree a) a o p.objects.items objects' p.holdings holdings'
    → StateRefinesJournal p.tree objects' holdings' (opening_in p.journal) (e ∷ entries_in p.journal)
made_read p e a o k objects' holdings' right free told moved =
    let s = opening_in p.journal in
    let h = history s (entries_in p.journal) in
    kept_event _ _ _ _ _ _ _ _ _ k right
    told.object (shapes_kept _ _ _ _ moved.objects)
    moved.objects.count (Accessed (a.0 + 1) o.0 e) told.event
    (λ l. parts_accessed (IsRead p.tree a) _ _ _ _ _ _ _ k.state a o e l
    free.low
    (λ c c' i r. read_cell s h p.tree k.state.actions a o.0 e l told.write c c' i r.base r.readers r.versions r.lawful)
    moved)

-- a change in one go: what it leaves of what a sees is what the entry tells
pub made_change : (p : GuardianState) (e : PlainEntry) (a : ActionId) (o : ObjId) (k : StateInvariant p)
    (objects' : List AtomicObject)
    (holdings' : Holdings) (change : PlainChange)
    → e.reply ≡ reply_to (journal_view_of p) e.call
    → IsFree p.tree p.objects.items a o (λ cell. may_write p.tree cell a) → IsAccessEntry p e a o true
    → ((seen : Option PlainContent) → content_after_call e.call seen ≡ (outcome change seen).0)
    → IsAccessed (IsAltered p.tree a change) a o p.objects.items objects' p.holdings holdings'
    → StateRefinesJournal p.tree objects' holdings' (opening_in p.journal) (e ∷ entries_in p.journal)
made_change p e a o k objects' holdings' change right free told left moved =
    let s = opening_in p.journal in
    let j = entries_in p.journal in
    let h = history s j in
    let t = p.tree in
    let xs = p.objects.items in
    let d : AtomicObject = some_object xs o.0 free.low in
    let cell = (slice_index_or xs o.0 d).cell in
    let reads : may_read t cell a ≡ true =
    (and_parts (all_above t a (holders cell.versions)) (all_above t a cell.readers) (free.opens d)).0 in
    let la = acts _ _ _ _ _ k a o.0 free.accepted in
    kept_event _ _ _ _ _ _ _ _ _ k right
    told.object (shapes_kept _ _ _ _ moved.objects)
    moved.objects.count (Accessed (a.0 + 1) o.0 e) told.event
    (λ l. parts_accessed (IsAltered t a change) _ _ _ _ _ _ _ k.state a o e l free.low
    (λ c c' i r.
    let may : may_read t c a ≡ true =
    may_read_is s h (lawful s j k.legal) t k.state.actions o.0 c i a la
    ∙ sym (reads_agree _ _ _ _ _ k a o.0 la d free.low)
    ∙ reads in
    let is : (changed t a change c).0 ≡ content_after_call e.call (sees entries (model_opening s) h (a.0 + 1) o.0) =
    ap (λ x. (outcome change x).0) (visible_is s h (lawful s j k.legal) t k.state.actions o.0 c i a la may)
    ∙ sym (left (sees entries (model_opening s) h (a.0 + 1) o.0)) in
    written_cell s h t k.state.actions a o.0 e l told.write c c' (changed t a change c).0 i is
    r.base r.readers r.versions r.lawful)
    moved)
