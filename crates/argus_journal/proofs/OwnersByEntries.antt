-- For a legal journal, the owners by its entries are those of its history.
use Rattle.std.proofs.Common.{Bool, List, None, Option, Some, [], ap, arith, cond, false, refl, subst, sym, true, ℕ}
use Rattle.std.proofs.{Common.{◌+◌, ◌-◌, ◌<◌, ◌∙◌, ◌∷◌, ◌≡◌, ◌≢◌}, lemmas.Bool.{Decides.nat_tests, eq-eqb, false≢true}}
use Rattle.std.{proofs.lemmas.Bool.not-true, specs.{List.list_any, Prelude.{is_some, nat_lt, not, ◌&&◌, ◌==◌}}}
use Rattle.argus_actions.specs.declared.action_id.ActionId.{ActionId}
use Rattle.argus_contents.specs.{Answer.{done, flag}, Shape.PlainShape}
use Rattle.argus_entries.specs.Call.{PlainCall, abort, abort_others, alter, ask, begin_nested, begin_sub, begin_top}
use Rattle.argus_entries.specs.{Call.{commit, declare, test_read, test_write}, Entry.PlainEntry, Reply.PlainReply}
use Rattle.argus_entries.specs.{Reply.{answered, begun}, declared.refusal.Refusal.{Refusal, TheVariants.NoSiblings}}
use Rattle.argus_model.specs.{Ancestors.{begun_by, is_ancestor, is_under, lineage, parent}, Lawful.Lawful}
use Rattle.argus_model.specs.{Event.{Aborted, Accessed, Began, Committed, Nested, Origin, Sub, Top}, History.History}
use Rattle.argus_model.specs.{History.{next_action, ◌▹◌}, Holders.{may_read, may_write}, Owner.{owner, owner_up}}
use Rattle.argus_model.specs.{Owner.{passed_up, unless_gone}, Status.{is_begun, is_live, live_siblings}}
use Rattle.argus_model.proofs.{Ancestors.next_pos, Counting.held_by_live, Lawful.lawful_orderly, Live.is_begun_parts}
use Rattle.argus_model.proofs.NextLive.{new_owner, owner_after_abort, owner_after_access, owner_after_begin}
use Rattle.argus_model.proofs.{NextLive.owner_after_commit, Siblings.{live_begun, under_siblings}, Standing.Orderly}
use Rattle.argus_journal.specs.{Answers.{granted, if_created, or_refused, refusal}, Entries.entries, Legal.Legal}
use Rattle.argus_journal.specs.{Events.{event_of, history, is_answered}, Numbering.unless_base, Objects.shapes}
use Rattle.argus_journal.specs.{Opening.{Opening, model_opening}, declared.owner.Owner.{Owner, TheVariants.Base}}
use Rattle.argus_journal.specs.{declared.owner.Owner.TheVariants.{Folded, Gone, Held}, Replaying.{at_parent, begins}}
use Rattle.argus_journal.specs.Replaying.{gone_if, heir, owner_next, owner_then, is_ancestor_by_entries}
use Rattle.argus_journal.specs.Replaying.{is_under_sibling_by_entries, begun_by_entries, owner_by_entries}
use Rattle.argus_journal.specs.{Replaying.parent_by_entries, JournalFacts.{in_program_owner, owner_in}}
use Rattle.argus_journal.proofs.Kin.{above_told, beside_told, creator_told, entry_tree, parent_told, with_reply}
use Rattle.argus_journal.proofs.Legal.{then_event, unless_none, free_none, lawful, refused_is_none, test_read_event}
use Rattle.argus_journal.proofs.{Legal.{test_write_event, tested}, Shifted.{after, or_none, unless_base_none}}
use Rattle.argus_journal.proofs.Shifted.{unless_base_some}
use Rattle.argus_model.specs.Owner as model

-- an owner, none of an action that hasn't begun, in the words of the history
abbrev pub model_owner : Option Owner → model.Owner
model_owner None = model.Folded
model_owner (Some Folded) = model.Folded
model_owner (Some Gone) = model.Gone
model_owner (Some Base) = model.Base
model_owner (Some (Held x)) = model.Held (x.0 + 1)

-- who is next to answer, in the words of the history
abbrev heir_in : ℕ → model.Owner
heir_in p = cond (p == 0) model.Base (model.Held p)

heir_is : (p : ℕ) (q : Option ℕ) → q ≡ unless_base p → model_owner (Some (heir q)) ≡ heir_in p
heir_is p q e = grind (arith, nat_tests, unless_base_none, unless_base_some, after)

-- owners of the history, after one more event

not_begun : (h : History PlainEntry) (x : ℕ) → is_begun h x ≡ false → owner h x ≡ model.Folded
not_begun h x e = ap (λ b. cond b (owner_up h (lineage h x)) model.Folded) e

begun_still : (h : History PlainEntry) (from : Origin) (x : ℕ) → x ≢ next_action h
    → is_begun (Began from ▹ h) x ≡ is_begun h x
begun_still h from x n = grind (arith, nat_tests)

owner_begin_other : (h : History PlainEntry) (from : Origin) → Orderly (Began from ▹ h) → (x : ℕ) → x ≢ next_action h
    → owner (Began from ▹ h) x ≡ owner h x
owner_begin_other h from w x n = grind (arith, nat_tests, owner_after_begin, not_begun, begun_still)

owner_access_any : (h : History PlainEntry) (a o : ℕ) (v : PlainEntry) → Orderly (Accessed a o v ▹ h) → (x : ℕ)
    → owner (Accessed a o v ▹ h) x ≡ owner h x
owner_access_any h a o v w x = grind (arith, nat_tests, owner_after_access, not_begun)

owner_commit_any : (h : History PlainEntry) (a : ℕ) → Orderly (Committed a ▹ h) → (x : ℕ)
    → owner (Committed a ▹ h) x ≡ passed_up a (parent h a) (owner h x)
owner_commit_any h a w x = grind (arith, nat_tests, owner_after_commit, not_begun)

owner_abort_any : (h : History PlainEntry) (z : List ℕ) → Orderly (Aborted z ▹ h) → (x : ℕ)
    → owner (Aborted z ▹ h) x ≡ unless_gone (is_under h z) (owner h x)
owner_abort_any h z w x = grind (arith, nat_tests, owner_after_abort, not_begun)

-- an entry that is no answer leaves the owner, and so does an access
kept_owner : (c : PlainCall) (r : PlainReply) (older : List PlainEntry) (q : Option Owner) → is_answered r ≡ false
    → owner_next (with_reply c r) older q ≡ q
kept_owner c r older q e = grind (arith, nat_tests)

pub spared_owner : (c : PlainCall) (r : PlainReply) (older : List PlainEntry) (q : Option Owner)
    → ((x : ActionId) → owner_then c older x ≡ Held x) → owner_next (with_reply c r) older q ≡ q
spared_owner c r older q f = grind (arith, nat_tests)

commit_owner : (h : History PlainEntry) (b : ℕ) (older : List PlainEntry)
    → parent_by_entries older b ≡ unless_base (parent h (b + 1)) → (q : Option Owner)
    → model_owner (owner_next (with_reply (commit b) (answered done)) older q)
    ≡ passed_up (b + 1) (parent h (b + 1)) (model_owner q)
commit_owner h b older p q = grind (arith, nat_tests, heir_is)

-- who is told to be over is so in the history
abort_owner : (h : History PlainEntry) (z : List ℕ) (c : PlainCall) (over : ActionId → Bool) (older : List PlainEntry)
    → ((y : ActionId) → owner_then c older y ≡ gone_if (over y) y) → (q : Option Owner)
    → ((y : ActionId) → q ≡ Some (Held y) → over y ≡ is_under h z (y.0 + 1))
    → model_owner (owner_next (with_reply c (answered done)) older q) ≡ unless_gone (is_under h z) (model_owner q)
abort_owner h z c over older goes q p = grind (arith, nat_tests)

-- an action that answers for some work is live
pub held_live : (h : History PlainEntry) → Orderly h → (a : ℕ) (y : ActionId) → model.Held (y.0 + 1) ≡ owner h a
    → is_live h (y.0 + 1) ≡ true
held_live h w a y e = grind (arith, nat_tests, held_by_live h w a (y.0 + 1), not_begun h a)

-- of a live action, one above it is beside b exactly where that is a sibling of b
ends_beside : (s : Opening) (older : List PlainEntry) → Legal s older → (b x : ℕ)
    → if_created (history s older) b ≡ None → is_live (history s older) (x + 1) ≡ true
    → at_parent false (begun_by_entries older b) (λ c. is_under_sibling_by_entries older c b x)
    ≡ is_under (history s older) (live_siblings (history s older) (b + 1)) (x + 1)
ends_beside s older l b x e live =
    let h = history s older in
    let made = begun_by h (b + 1) in
    let n = not_zero made (not-true (made == 0) (unless_none (not (made == 0)) NoSiblings None e).0) in
    ap (λ q. at_parent false q (λ c. is_under_sibling_by_entries older c b x)) (creator_told s older l b
    ∙ unless_base_some made n)
    ∙ beside_told s older l (made - 1) b x (is_begun_parts h (x + 1) (live_begun h (x + 1) live)).1
    ∙ ap (λ k. list_any (λ y. not (y == 0) && (not (y == (b + 1)) && (begun_by h y == k))) (lineage h (x + 1)))
    (after made n)
    ∙ sym (under_siblings entries (model_opening s) h (b + 1) (x + 1) (lawful s older l) live)
  where
    not_zero : (n : ℕ) → (n == 0) ≡ false → n ≢ 0
    not_zero n e z = false≢true (sym e ∙ eq-eqb n 0 z)

begun_owner : (h : History PlainEntry) (from : Origin) → Orderly (Began from ▹ h)
    → (a : ℕ) (c : PlainCall) (older : List PlainEntry) (q : Option Owner) → model_owner q ≡ owner h (a + 1)
    → model_owner
    (cond ((next_action h - 1) == a) (Some (Held (record { 0 = a })))
    (owner_next (with_reply c (begun (next_action h - 1))) older q)) ≡ owner (Began from ▹ h) (a + 1)
begun_owner h from w a c older q ih =
    grind (arith, nat_tests, with_reply, next_pos, new_owner, kept_owner, owner_begin_other)

module _ (s : Opening) (objects : List PlainShape) (older : List PlainEntry) (legal : Legal s older) where
  abbrev h : History PlainEntry
  h = history s older

  abbrev Lawfully : History PlainEntry → Type 0
  Lawfully g = Lawful entries (model_opening s) g

  ordered : (g : History PlainEntry) → Lawfully g → Orderly g
  ordered g l = lawful_orderly entries (model_opening s) g l

  module _ (a : ℕ) (q : Option Owner) (ih : model_owner q ≡ owner h (a + 1)) where
    abbrev Claim : PlainCall → PlainReply → History PlainEntry → Type 0
    Claim c r g =
        model_owner (cond (begins r a) (Some (Held (record { 0 = a }))) (owner_next (with_reply c r) older q))
        ≡ owner g (a + 1)

    spared : (c : PlainCall) (r : PlainReply) → begins r a ≡ false → ((x : ActionId) → owner_then c older x ≡ Held x)
        → Claim c r h
    spared c r b f = grind (arith, nat_tests, with_reply, spared_owner)

    access : (c : PlainCall) (r : PlainReply) (b o : ℕ) (v : PlainEntry) → begins r a ≡ false
        → ((x : ActionId) → owner_then c older x ≡ Held x) → Lawfully (Accessed b o v ▹ h)
        → Claim c r (Accessed b o v ▹ h)
    access c r b o v n f w = spared c r n f ∙ sym (owner_access_any h b o v (ordered (Accessed b o v ▹ h) w) (a + 1))

    tested_owner : (c : PlainCall) (b o : ℕ) (t : Bool)
        → ((x : Bool) (e : PlainEntry) → event_of h c (answered (flag x)) e ≡ cond x (Some (Accessed (b + 1) o e)) None)
        → ((x : ActionId) → owner_then c older x ≡ Held x) → Lawfully (then_event c (answered (flag t)) h)
        → Claim c (answered (flag t)) (then_event c (answered (flag t)) h)
    tested_owner c b o t ev f =
        tested (λ g. Lawfully g → Claim c (answered (flag t)) g) h b o t c ev
        (λ _ w. access c (answered (flag t)) (b + 1) o (with_reply c (answered (flag true))) refl f w)
        (λ w. spared c (answered (flag t)) refl f)

    owner_step : (c : PlainCall) → refusal h objects c ≡ None → Lawfully (then_event c (granted s h objects c) h)
        → Claim c (granted s h objects c) (then_event c (granted s h objects c) h)
    owner_step (declare shape) e w = spared (declare shape) (granted s h objects (declare shape)) refl (λ x. refl)
    owner_step begin_top e w = begun_owner h Top (ordered (Began Top ▹ h) w) a begin_top older q ih
    owner_step (begin_sub p) e w =
        begun_owner h (Sub (p + 1)) (ordered (Began (Sub (p + 1)) ▹ h) w) a (begin_sub p) older q ih
    owner_step (begin_nested p) e w =
        begun_owner h (Nested (p + 1)) (ordered (Began (Nested (p + 1)) ▹ h) w) a (begin_nested p) older q ih
    owner_step (commit b) e w =
        commit_owner h b older (parent_told s older legal b) q ∙ ap (passed_up (b + 1) (parent h (b + 1))) ih
        ∙ sym (owner_commit_any h (b + 1) (ordered (Committed (b + 1) ▹ h) w) (a + 1))
    owner_step (abort b) e w =
        let z = (b + 1) ∷ [] in
        abort_owner h z (abort b) (λ y. is_ancestor_by_entries older b y.0) older (λ y. refl) q
        (λ y _. above_told s older legal b y.0 ∙ sym (or_none (is_ancestor h (b + 1) (y.0 + 1))))
        ∙ ap (unless_gone (is_under h z)) ih
        ∙ sym (owner_abort_any h z (ordered (Aborted z ▹ h) w) (a + 1))
    owner_step (abort_others b) e w =
        let z = live_siblings h (b + 1) in
        abort_owner h z (abort_others b) (λ y. at_parent false (begun_by_entries older b)
        (λ c. is_under_sibling_by_entries older c b y.0))
        older (λ y. refl) q
        (λ y k. grind (arith, nat_tests, ends_beside, free_none, held_live, ordered, lawful))
        ∙ ap (unless_gone (is_under h z)) ih
        ∙ sym (owner_abort_any h z (ordered (Aborted z ▹ h) w) (a + 1))
    owner_step (ask b o y) e w = grind (arith, nat_tests, access, with_reply)
    owner_step (alter b o y) e w = grind (arith, nat_tests, access, with_reply)
    owner_step (test_read b o) e w =
        tested_owner (test_read b o) b o (may_read entries h (b + 1) o) (test_read_event h b o) (λ x. refl) w
    owner_step (test_write b o) e w =
        tested_owner (test_write b o) b o (may_write entries h (b + 1) o) (test_write_event h b o) (λ x. refl) w

    owner_answer : (c : PlainCall) (why : Option Refusal) → refusal h objects c ≡ why
        → Lawfully (then_event c (or_refused why (granted s h objects c)) h)
        → Claim c (or_refused why (granted s h objects c)) (then_event c (or_refused why (granted s h objects c)) h)
    owner_answer c why e w = grind (arith, nat_tests, owner_step, refused_is_none, with_reply, kept_owner)

unborn : (first a : ℕ) → model_owner (cond (nat_lt a first) (Some Folded) None) ≡ model.Folded
unborn first a = grind (arith, nat_tests)

-- in the words of the history
pub owner_is_told : (s : Opening) (j : List PlainEntry) → Legal s j → (a : ℕ)
    → model_owner (owner_by_entries s.first_action j a) ≡ owner (history s j) (a + 1)
owner_is_told s [] l a = grind (arith, nat_tests, unborn, not_begun)
owner_is_told s (e ∷ older) l a =
    let h = history s older in
    let first = s.first_action in
    let w = lawful s (e ∷ older) l in
    subst (λ r. Lawful entries (model_opening s) (then_event e.call r h)
    → model_owner (owner_by_entries first (with_reply e.call r ∷ older) a) ≡ owner (then_event e.call r h) (a + 1))
    (sym l.0)
    (owner_answer s (shapes s older) older l.1 a (owner_by_entries first older a) (owner_is_told s older l.1 a) e.call
    (refusal h (shapes s older) e.call) refl)
    w

-- where there is an owner

pub next_there : (e : PlainEntry) (older : List PlainEntry) (q : Option Owner)
    → is_some (owner_next e older q) ≡ is_some q
next_there e older q = grind (arith)

begun_there : (n a : ℕ) (new old : Option Owner) → 0 < n → is_some new ≡ true → is_some old ≡ nat_lt (a + 1) n
    → is_some (cond ((n - 1) == a) new old) ≡ nat_lt (a + 1) (n + 1)
begun_there n a new old p u o = grind (arith, nat_tests)

folded_there : (first a : ℕ) → is_some (cond (nat_lt a first) (Some Folded) None) ≡ nat_lt (a + 1) (first + 1)
folded_there first a = grind (arith, nat_tests)

pub owner_there : (s : Opening) (j : List PlainEntry) → Legal s j → (a : ℕ)
    → is_some (owner_by_entries s.first_action j a) ≡ nat_lt (a + 1) (next_action (history s j))
owner_there s [] l a = folded_there s.first_action a
owner_there s (e ∷ older) l a =
    grind (arith, nat_tests, next_there, with_reply, begun_there, next_pos, entry_tree, owner_there s older l.1 a)

-- in the program's words
back : (k : Owner) → k ≡ in_program_owner (model_owner (Some k))
back k = grind (arith, nat_tests)

told_is : (q : Option Owner) (o : model.Owner) (b : Bool) → model_owner q ≡ o → is_some q ≡ b
    → q ≡ cond b (Some (in_program_owner o)) None
told_is q o b e there = grind (arith, nat_tests, back)

pub owner_told : (s : Opening) (j : List PlainEntry) → Legal s j → (a : ℕ)
    → owner_by_entries s.first_action j a ≡ owner_in s j a
owner_told s j l a = grind (arith, nat_tests, told_is, owner_is_told s j l a, owner_there s j l a)
