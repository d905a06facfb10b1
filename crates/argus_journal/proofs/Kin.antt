-- For a legal journal, the parents, creators and ancestors by its entries are those of its history.
use Rattle.std.proofs.Common.{Bool, List, None, Option, Some, [], ap, arith, cond, false, refl, subst, sym, true, ℕ}
use Rattle.std.{proofs.{Common.{◌+◌, ◌-◌, ◌<◌, ◌∙◌, ◌∷◌, ◌≡◌}, lemmas.Bool.Decides.nat_tests}, specs.List.list_any}
use Rattle.std.specs.Prelude.{not, ◌&&◌, ◌==◌, ◌||◌}
use Rattle.argus_entries.specs.{Call.{PlainCall, begin_nested, begin_sub, begin_top}, Entry.PlainEntry}
use Rattle.argus_entries.specs.{Reply.{PlainReply, begun}, declared.refusal.Refusal.Refusal}
use Rattle.argus_journal.specs.Replaying.{parent_by_entries, at_parent, begins, begun_by_call, is_this_action}
use Rattle.argus_journal.specs.Replaying.{parent_by, is_ancestor_by_entries, is_under_sibling_by_entries}
use Rattle.argus_journal.specs.{Replaying.begun_by_entries, Answers.{granted, or_refused, refusal}, Entries.entries}
use Rattle.argus_journal.specs.{Legal.Legal, Events.history, Numbering.unless_base, Opening.{Opening, model_opening}}
use Rattle.argus_journal.proofs.{Legal.{lawful, live_none, refused_is_none, then_event}, Shifted.{before, not_base}}
use Rattle.argus_journal.proofs.Shifted.{one_more, or_none, zero_not_one_more}
use Rattle.argus_contents.specs.Shape.{PlainShape}
use Rattle.argus_model.specs.{Ancestors.{begun_by, is_ancestor, lineage, parent}, Event.{origin_parent, Aborted}}
use Rattle.argus_model.specs.Event.{Accessed, Began, Committed, Nested, Origin, Sub, Top, origin_begun_by}
use Rattle.argus_model.specs.{Numbers.contains, History.{History, Opened, next_action, ◌▹◌}, Status.is_live}
use Rattle.argus_model.proofs.{Ancestors.{ParentsAreOlder, ancestor_le, next_pos}, Bools.and_none, Live.is_begun_parts}
use Rattle.argus_model.proofs.{Lawful.lawful_orderly, Numbers.any_agree, Serial.lineage-base, Siblings.live_begun}
use Rattle.argus_model.proofs.Standing.{parents_are_older}

abbrev pub with_reply : PlainCall → PlainReply → PlainEntry
with_reply c r = record { call = c; reply = r }

-- one more entry either begins an action, or leaves all actions where they are

pub record SameTree (h g : History PlainEntry) : Type 0 where
  pub next : next_action g ≡ next_action h
  pub lines : (a : ℕ) → lineage g a ≡ lineage h a
  pub parents : (a : ℕ) → parent g a ≡ parent h a
  pub creators : (a : ℕ) → begun_by g a ≡ begun_by h a

same_tree : (h : History PlainEntry) → SameTree h h
same_tree h = record { next = refl; lines = λ a. refl; parents = λ a. refl; creators = λ a. refl }

committed_tree : (h : History PlainEntry) (b : ℕ) → SameTree h (Committed b ▹ h)
committed_tree h b = record { next = refl; lines = λ a. refl; parents = λ a. refl; creators = λ a. refl }

aborted_tree : (h : History PlainEntry) (bs : List ℕ) → SameTree h (Aborted bs ▹ h)
aborted_tree h bs = record { next = refl; lines = λ a. refl; parents = λ a. refl; creators = λ a. refl }

accessed_tree : (h : History PlainEntry) (b o : ℕ) (v : PlainEntry) → SameTree h (Accessed b o v ▹ h)
accessed_tree h b o v = record { next = refl; lines = λ a. refl; parents = λ a. refl; creators = λ a. refl }

module _ (s : Opening) (objects : List PlainShape) (h : History PlainEntry)
    (P : PlainCall → PlainReply → History PlainEntry → Type 0)
    (top : P begin_top (begun (next_action h - 1)) (Began Top ▹ h))
    (sub : (p : ℕ) → is_live h (p + 1) ≡ true → P (begin_sub p) (begun (next_action h - 1)) (Began (Sub (p + 1)) ▹ h))
    (nested : (c : ℕ) → P (begin_nested c) (begun (next_action h - 1)) (Began (Nested (c + 1)) ▹ h))
    (rest : (c : PlainCall) (r : PlainReply) (g : History PlainEntry) → ((a : ℕ) → begins r a ≡ false) → SameTree h g
    → P c r g) where
  granted_tree : (c : PlainCall) → refusal h objects c ≡ None
      → P c (granted s h objects c) (then_event c (granted s h objects c) h)
  granted_tree c e =
      grind (arith, nat_tests, sub, live_none, same_tree, committed_tree, aborted_tree, accessed_tree, rest)

  answered_tree : (c : PlainCall) (why : Option Refusal) → refusal h objects c ≡ why
      → P c (or_refused why (granted s h objects c)) (then_event c (or_refused why (granted s h objects c)) h)
  answered_tree c why e = grind (arith, nat_tests, granted_tree, refused_is_none, same_tree)

module _ (s : Opening) (e : PlainEntry) (older : List PlainEntry) (l : Legal s (e ∷ older)) where
  abbrev now : History PlainEntry
  now = history s older

  pub entry_tree : (P : PlainCall → PlainReply → History PlainEntry → Type 0)
      → P begin_top (begun (next_action now - 1)) (Began Top ▹ now)
      → ((p : ℕ) → is_live now (p + 1) ≡ true
      → P (begin_sub p) (begun (next_action now - 1)) (Began (Sub (p + 1)) ▹ now))
      → ((c : ℕ) → P (begin_nested c) (begun (next_action now - 1)) (Began (Nested (c + 1)) ▹ now))
      → ((c : PlainCall) (r : PlainReply) (g : History PlainEntry) → ((a : ℕ) → begins r a ≡ false) → SameTree now g
      → P c r g)
      → P e.call e.reply (history s (e ∷ older))
  entry_tree P top sub nested rest = grind (arith, nat_tests, then_event, answered_tree)

-- ancestors

opened_above : (n x a : ℕ) → (x == a) ≡ is_ancestor {V = PlainEntry} (Opened n) (x + 1) (a + 1)
opened_above n x a = grind (arith, nat_tests)

begun_above : (h : History PlainEntry) (from : Origin) (x a : ℕ) (up old : Bool)
    → up ≡ is_ancestor h (x + 1) (origin_parent from) → old ≡ is_ancestor h (x + 1) (a + 1)
    → cond ((next_action h - 1) == a) (x == a || up) old ≡ is_ancestor (Began from ▹ h) (x + 1) (a + 1)
begun_above h from x a up old u o = grind (arith, nat_tests, next_pos)

base_above : (h : History PlainEntry) (x : ℕ) → false ≡ is_ancestor h (x + 1) 0
base_above h x = sym (ap (λ t. contains t (x + 1)) (lineage-base h) ∙ or_none ((x + 1) == 0) ∙ not_base x)

pub above_told : (s : Opening) (j : List PlainEntry) → Legal s j → (x a : ℕ)
    → is_ancestor_by_entries j x a ≡ is_ancestor (history s j) (x + 1) (a + 1)
above_told s [] l x a = opened_above s.first_action x a
above_told s (e ∷ older) l x a =
    let h = history s older in
    let old = is_ancestor_by_entries older x a in
    entry_tree s e older l (λ c r g. is_ancestor_by_entries (with_reply c r ∷ older) x a ≡ is_ancestor g (x + 1)
    (a + 1))
    (begun_above h Top x a false old (base_above h x) (above_told s older l.1 x a))
    (λ p _. begun_above h (Sub (p + 1)) x a (is_ancestor_by_entries older x p) old (above_told s older l.1 x p)
    (above_told s older l.1 x a))
    (λ c. begun_above h (Nested (c + 1)) x a false old (base_above h x) (above_told s older l.1 x a))
    (λ c r g none same. grind (arith, nat_tests, above_told s older l.1 x a))

-- parents and creators

some_kin : (p : ℕ) → Some p ≡ unless_base (p + 1)
some_kin p = sym (ap (λ b. cond b None (Some ((p + 1) - 1))) (not_base p) ∙ ap Some (before p))

begun_kin : (h : History PlainEntry) (a kin old : ℕ) (new was : Option ℕ) → new ≡ unless_base kin
    → was ≡ unless_base old
    → cond ((next_action h - 1) == a) new was ≡ unless_base (cond ((a + 1) == next_action h) kin old)
begun_kin h a kin old new was u o = grind (arith, nat_tests, next_pos)

pub parent_told : (s : Opening) (j : List PlainEntry) → Legal s j → (a : ℕ)
    → parent_by_entries j a ≡ unless_base (parent (history s j) (a + 1))
parent_told s [] l a = refl
parent_told s (e ∷ older) l a = grind (arith, nat_tests, entry_tree, begun_kin, some_kin, parent_told s older l.1 a)

pub creator_told : (s : Opening) (j : List PlainEntry) → Legal s j → (a : ℕ)
    → begun_by_entries j a ≡ unless_base (begun_by (history s j) (a + 1))
creator_told s [] l a = refl
creator_told s (e ∷ older) l a = grind (arith, nat_tests, entry_tree, begun_kin, some_kin, creator_told s older l.1 a)

-- siblings

-- c + 1 began y, which is another than b + 1
abbrev pub is_under_sibling : History PlainEntry → ℕ → ℕ → ℕ → Bool
is_under_sibling h c b y = not (y == 0) && (not (y == (b + 1)) && (begun_by h y == (c + 1)))

none_beside : (n c b : ℕ) (ys : List ℕ) → false ≡ list_any (is_under_sibling (Opened n) c b) ys
none_beside n c b [] = refl
none_beside n c b (y ∷ ys) = grind (arith, nat_tests, and_none, none_beside n c b ys)

-- one more action changes nothing of those above y
same_beside : (h : History PlainEntry) (from : Origin) (c b y : ℕ) → ParentsAreOlder h → y < next_action h
    → list_any (is_under_sibling h c b) (lineage h y) ≡ list_any (is_under_sibling (Began from ▹ h) c b) (lineage h y)
same_beside h from c b y f lt = grind (arith, nat_tests, any_agree, ancestor_le)

base_beside : (h g : History PlainEntry) (c b : ℕ) → false ≡ list_any (is_under_sibling g c b) (lineage h 0)
base_beside h g c b = sym (ap (list_any (is_under_sibling g c b)) (lineage-base h))

module _ (h : History PlainEntry) (from : Origin) (c b x : ℕ) (the up old : Bool) where
  abbrev g : History PlainEntry
  g = Began from ▹ h

  first : (x + 1) ≡ next_action h → is_under_sibling g c b (x + 1) ≡ (not (x == b) && (origin_begun_by from == (c + 1)))
  first e = grind (arith, nat_tests)

  begun_beside : ParentsAreOlder h → the ≡ (origin_begun_by from == (c + 1))
      → up ≡ list_any (is_under_sibling g c b) (lineage h (origin_parent from))
      → (x + 1 < next_action h → old ≡ list_any (is_under_sibling h c b) (lineage h (x + 1)))
      → x + 1 < next_action h + 1
      → cond ((next_action h - 1) == x) ((not (x == b) && the) || up) old
      ≡ list_any (is_under_sibling g c b) (lineage g (x + 1))
  begun_beside f t u o lt = grind (arith, nat_tests, next_pos, same_beside)

pub beside_told : (s : Opening) (j : List PlainEntry) → Legal s j → (c b x : ℕ) → x + 1 < next_action (history s j)
    → is_under_sibling_by_entries j c b x ≡ list_any (is_under_sibling (history s j) c b) (lineage (history s j)
    (x + 1))
beside_told s [] l c b x lt = none_beside s.first_action c b (lineage {V = PlainEntry} (Opened s.first_action) (x + 1))
beside_told s (e ∷ older) l c b x below =
    let h = history s older in
    let f = parents_are_older h (lawful_orderly entries (model_opening s) h (lawful s older l.1)) in
    let old = is_under_sibling_by_entries older c b x in
    let ih = beside_told s older l.1 c b in
    entry_tree s e older l
    (λ call r g. x + 1 < next_action g
    → is_under_sibling_by_entries (with_reply call r ∷ older) c b x ≡ list_any (is_under_sibling g c b) (lineage g
    (x + 1)))
    (begun_beside h Top c b x false false old f (sym (zero_not_one_more c)) (base_beside h (Began Top ▹ h) c b) (ih x))
    (λ p live. let lt = (is_begun_parts h (p + 1) (live_begun h (p + 1) live)).1 in
    begun_beside h (Sub (p + 1)) c b x (p == c) (is_under_sibling_by_entries older c b p) old f (sym (one_more p c))
    (ih p lt ∙ same_beside h (Sub (p + 1)) c b (p + 1) f lt) (ih x))
    (λ k. begun_beside h (Nested (k + 1)) c b x (k == c) false old f (sym (one_more k c))
    (base_beside h (Began (Nested (k + 1)) ▹ h) c b) (ih x))
    (λ call r g none same lt.
    ap (λ k. cond k
    ((not (x == b) && is_this_action (begun_by_call call) c) || at_parent false (parent_by call)
    (is_under_sibling_by_entries older c b)) old)
    (none x)
    ∙ ih x (subst (λ n. x + 1 < n) same.next lt)
    ∙ sym (ap (list_any (is_under_sibling g c b)) (same.lines (x + 1))
    ∙ any_agree (is_under_sibling g c b) (is_under_sibling h c b) (lineage h (x + 1))
    (λ z _. ap (λ k. not (z == 0) && (not (z == (b + 1)) && (k == (c + 1)))) (same.creators z))))
    below
