-- What one more entry of a legal journal changes, by what it says happened, in the program's numbers.
use Rattle.std.proofs.Common.{List, None, Option, Some, ap, arith, cond, refl, sym, true, ℕ, ◌+◌, ◌-◌, ◌∙◌, ◌∷◌, ◌≡◌}
use Rattle.std.{proofs.{Common.◌≢◌, lemmas.Bool.Decides.nat_tests}, specs.Prelude.{Bool, filter, is_none, not, ◌&&◌}}
use Rattle.std.specs.Prelude.{◌==◌, ◌||◌}
use Rattle.argus_contents.specs.Content.{PlainContent}
use Rattle.argus_entries.specs.{Call.abort_others, Entry.PlainEntry}
use Rattle.argus_model.specs.{Ancestors.{is_ancestor, is_under, parent}, Contents.{base, sees}, Lawful.Lawful}
use Rattle.argus_model.specs.Event.{Aborted, Accessed, Began, Committed, Event, Nested, Origin, Sub, Top}
use Rattle.argus_model.specs.{History.{History, next_action, ◌▹◌}, Holders.{readers, writers}, Meaning.reads}
use Rattle.argus_model.{specs.{Numbers.{contains, insert}, Status.{is_live, live_siblings}}, proofs.Ancestors.next_pos}
use Rattle.argus_model.proofs.{Bools.and_none, Lawful.{lawful_orderly, lawful_steps}, Live.contains_siblings}
use Rattle.argus_model.proofs.{Live.live_stands, Owner.base_above, Serial.guarded, NextHolders.holders_after_abort}
use Rattle.argus_model.proofs.NextHolders.{holders_after_access, holders_after_begin, holders_after_commit}
use Rattle.argus_model.proofs.{NextHolders.no_base_holder, Standing.Orderly, NextLive.live_after_abort}
use Rattle.argus_model.proofs.{NextLive.{live_after_begin, live_after_commit}, NextSees.base_after_abort}
use Rattle.argus_model.proofs.NextSees.{base_after_access, base_after_begin, base_after_commit, sees_after_abort}
use Rattle.argus_model.proofs.NextSees.{sees_after_access_other, sees_after_access_own, sees_after_begin}
use Rattle.argus_model.proofs.NextSees.{sees_after_begin_new, sees_after_commit, sees_base}
use Rattle.argus_journal.specs.{Entries.{entries, is_write, content_after_call}, Legal.Legal, JournalFacts.writers_of}
use Rattle.argus_journal.specs.JournalFacts.{base_of, holders_inherited, is_live_in, is_parent_above, is_under_in}
use Rattle.argus_journal.specs.JournalFacts.{live_siblings_in, next_action_number, parent_in, readers_of, visible_to}
use Rattle.argus_journal.specs.{Events.{happens, history, is_answered, with_event}, Numbering.all_in_history}
use Rattle.argus_journal.specs.{Numbering.{all_in_program, unless_base}, Opening.{Opening, model_opening}}
use Rattle.argus_journal.proofs.{Legal.lawful, Shifted.{one_more, unless_base_none, unless_base_some, NoBase, after}}
use Rattle.argus_journal.proofs.Shifted.{all_back, any-map, contains_in_program, filter_in_program, handed_in_program}
use Rattle.argus_journal.proofs.Shifted.{insert_in_program, is_next, is_none_base, map_cond}

pub same_history : (s : Opening) (e : PlainEntry) (j : List PlainEntry) → happens s e j ≡ None
    → history s (e ∷ j) ≡ history s j
same_history s e j q = ap (λ x. with_event x (history s j)) q

-- what holds of the history with this event holds of the journal with the entry that says so
pub by_event : (s : Opening) (e : PlainEntry) (j : List PlainEntry) (event : Event PlainEntry)
    (P : History PlainEntry → Type 0) → Legal s (e ∷ j) → happens s e j ≡ Some event
    → (Lawful entries (model_opening s) (event ▹ history s j) → P (event ▹ history s j)) → P (history s (e ∷ j))
by_event s e j event P l q f = grind (arith, nat_tests, lawful s (e ∷ j) l)

-- no holder is the base
pub readers_above : (h : History PlainEntry) (o : ℕ) → NoBase (readers entries h o)
readers_above h o = no_base_holder (reads entries) h o

pub writers_above : (h : History PlainEntry) (o : ℕ) → NoBase (writers entries h o)
writers_above h o = no_base_holder entries.writes h o

pub siblings_above : (h : History PlainEntry) (a : ℕ) → NoBase (live_siblings h a)
siblings_above h a = contains_siblings h a 0 ∙ and_none (is_live h 0)

pub siblings_abort : (s : Opening) (e : PlainEntry) (j : List PlainEntry) (a : ℕ) → e.call ≡ abort_others a
    → is_answered e.reply ≡ true → happens s e j ≡ Some (Aborted (all_in_history (live_siblings_in s j a)))
siblings_abort s e j a c r = grind (arith, nat_tests, all_back, siblings_above)

module _ (s : Opening) (e : PlainEntry) (j : List PlainEntry) where
  abbrev h : History PlainEntry
  h = history s j

  abbrev seen_in : History PlainEntry → ℕ → ℕ → Option PlainContent
  seen_in g x o = sees entries (model_opening s) g x o

  orderly : (g : History PlainEntry) → Lawful entries (model_opening s) g → Orderly g
  orderly g l = lawful_orderly entries (model_opening s) g l

  -- what happened leaves the actions in order
  happened : (event : Event PlainEntry) → Legal s (e ∷ j) → happens s e j ≡ Some event → Orderly (event ▹ h)
  happened event l q = grind (arith, nat_tests, orderly, lawful s (e ∷ j) l)

  module _ (from : Origin) (l : Legal s (e ∷ j)) (q : happens s e j ≡ Some (Began from)) where
    pub begin_live : (x : ℕ) → is_live_in s (e ∷ j) x ≡ ((x == next_action_number s j) || is_live_in s j x)
    begin_live x =
        rw q (live_after_begin h from (happened (Began from) l q) (x + 1)
        ∙ ap (λ b. b || is_live h (x + 1)) (is_next (next_action h) x (next_pos h)))

    pub begin_readers : (o : ℕ) → readers_of s (e ∷ j) o ≡ readers_of s j o
    begin_readers o =
        rw q (ap all_in_program (holders_after_begin (reads entries) h from (happened (Began from) l q) o))

    pub begin_writers : (o : ℕ) → writers_of s (e ∷ j) o ≡ writers_of s j o
    begin_writers o = rw q (ap all_in_program (holders_after_begin entries.writes h from (happened (Began from) l q) o))

    pub begin_others_see : (x o : ℕ) → x ≢ next_action_number s j → visible_to s (e ∷ j) x o ≡ visible_to s j x o
    begin_others_see x o n =
        rw q (sees_after_begin entries (model_opening s) h from (happened (Began from) l q) (x + 1) o
        (λ k. n (let p = next_pos h in omega (arith, k))))

    pub begin_base : (o : ℕ) → base_of s (e ∷ j) o ≡ base_of s j o
    begin_base o = rw q (base_after_begin entries (model_opening s) h from (happened (Began from) l q) o)

  next_is : (next_action h - 1) + 1 ≡ next_action h
  next_is = let p = next_pos h in omega arith

  pub sub_sees : (p o : ℕ) → Legal s (e ∷ j) → happens s e j ≡ Some (Began (Sub (p + 1)))
      → visible_to s (e ∷ j) (next_action_number s j) o ≡ visible_to s j p o
  sub_sees p o l q =
      rw (q, next_is)
      (sees_after_begin_new entries (model_opening s) h (Sub (p + 1)) (happened (Began (Sub (p + 1))) l q) o)

  pub top_sees : (o : ℕ) → Legal s (e ∷ j) → happens s e j ≡ Some (Began Top)
      → visible_to s (e ∷ j) (next_action_number s j) o ≡ base_of s j o
  top_sees o l q =
      rw (q, next_is) (sees_after_begin_new entries (model_opening s) h Top (happened (Began Top) l q) o
      ∙ sees_base entries (model_opening s) h (orderly h (lawful s j l.1)) o)

  pub nested_sees : (c o : ℕ) → Legal s (e ∷ j) → happens s e j ≡ Some (Began (Nested (c + 1)))
      → visible_to s (e ∷ j) (next_action_number s j) o ≡ base_of s j o
  nested_sees c o l q =
      rw (q, next_is)
      (sees_after_begin_new entries (model_opening s) h (Nested (c + 1)) (happened (Began (Nested (c + 1))) l q) o
      ∙ sees_base entries (model_opening s) h (orderly h (lawful s j l.1)) o)

  -- who holds after a granted access, in the program's numbers
  inserted : (b : Bool) (a : ℕ) (xs : List ℕ) → NoBase xs
      → all_in_program (cond b (insert (a + 1) xs) xs) ≡ cond b (insert a (all_in_program xs)) (all_in_program xs)
  inserted b a xs n = grind (arith, nat_tests, map_cond, insert_in_program)

  module _ (a i : ℕ) (l : Legal s (e ∷ j)) (q : happens s e j ≡ Some (Accessed (a + 1) i e)) where
    pub access_live : (x : ℕ) → is_live_in s (e ∷ j) x ≡ is_live_in s j x
    access_live x = by_event s e j (Accessed (a + 1) i e) (λ g. is_live g (x + 1) ≡ is_live h (x + 1)) l q (λ w. refl)

    pub access_readers : (o : ℕ)
        → readers_of s (e ∷ j) o
        ≡ cond (i == o && not (is_write e.call)) (insert a (readers_of s j o)) (readers_of s j o)
    access_readers o =
        rw q (ap all_in_program (holders_after_access (reads entries) h (a + 1) i e (happened _ l q) o)
        ∙ inserted (i == o && not (is_write e.call)) a (readers entries h o) (readers_above h o))

    pub access_writers : (o : ℕ)
        → writers_of s (e ∷ j) o ≡ cond (i == o && is_write e.call) (insert a (writers_of s j o)) (writers_of s j o)
    access_writers o =
        rw q (ap all_in_program (holders_after_access entries.writes h (a + 1) i e (happened _ l q) o)
        ∙ inserted (i == o && is_write e.call) a (writers entries h o) (writers_above h o))

    pub access_sees : (o : ℕ)
        → visible_to s (e ∷ j) a o ≡ cond (i == o) (content_after_call e.call (visible_to s j a o)) (visible_to s j a o)
    access_sees o = rw q (sees_after_access_own entries (model_opening s) h (a + 1) i e (happened _ l q) o)

    pub access_others_see : (x o : ℕ) → is_live_in s j x ≡ true → x ≢ a → visible_to s (e ∷ j) x o ≡ visible_to s j x o
    access_others_see x o k n =
        rw q (sees_after_access_other entries (model_opening s) h (a + 1) i e (happened _ l q) (x + 1) o
        (live_stands h (orderly h (lawful s j l.1)) (x + 1) k).1 (λ m. n (omega (arith, m))))

    pub access_base : (o : ℕ) → base_of s (e ∷ j) o ≡ base_of s j o
    access_base o = rw q (base_after_access entries (model_opening s) h (a + 1) i e (happened _ l q) o)

  -- a parent in the history's numbers is above x where it is so in the program's
  parent_above : (p x : ℕ) → is_ancestor h p (x + 1) ≡ is_parent_above s j (unless_base p) x
  parent_above p x = grind (arith, nat_tests, base_above, unless_base_none, after, unless_base_some)

  module _ (a : ℕ) (l : Legal s (e ∷ j)) (q : happens s e j ≡ Some (Committed (a + 1))) where
    abbrev up : ℕ
    up = parent h (a + 1)

    wrote_it : (o : ℕ) → contains (writers entries h o) (a + 1) ≡ contains (writers_of s j o) a
    wrote_it o = sym (contains_in_program (writers entries h o) a (writers_above h o))

    pub commit_live : (x : ℕ) → is_live_in s (e ∷ j) x ≡ (is_live_in s j x && not (x == a))
    commit_live x =
        rw q (live_after_commit h (a + 1) (happened _ l q) (x + 1)
        ∙ ap (λ b. is_live h (x + 1) && not b) (one_more x a))

    pub commit_readers : (o : ℕ) → readers_of s (e ∷ j) o ≡ holders_inherited a (parent_in s j a) (readers_of s j o)
    commit_readers o =
        rw q (ap all_in_program (holders_after_commit (reads entries) h (a + 1) (happened _ l q) o)
        ∙ handed_in_program a up (readers entries h o) (readers_above h o))

    pub commit_writers : (o : ℕ) → writers_of s (e ∷ j) o ≡ holders_inherited a (parent_in s j a) (writers_of s j o)
    commit_writers o =
        rw q (ap all_in_program (holders_after_commit entries.writes h (a + 1) (happened _ l q) o)
        ∙ handed_in_program a up (writers entries h o) (writers_above h o))

    pub commit_sees : (x o : ℕ) → is_live_in s j x ≡ true → x ≢ a
        → visible_to s (e ∷ j) x o
        ≡ cond (contains (writers_of s j o) a && is_parent_above s j (parent_in s j a) x) (visible_to s j a o)
        (visible_to s j x o)
    commit_sees x o k n =
        let both = λ (b c : Bool). cond (b && c) (seen_in h (a + 1) o) (seen_in h (x + 1) o) in
        rw q (sees_after_commit entries (model_opening s) h (a + 1) (happened _ l q)
        (guarded entries (model_opening s).contents h (lawful_steps entries (model_opening s) h (lawful s j l.1)))
        (x + 1) (live_stands h (orderly h (lawful s j l.1)) (x + 1) k).1 (λ m. n (omega (arith, m))) o
        ∙ ap (λ b. both b (is_ancestor h up (x + 1))) (wrote_it o)
        ∙ ap (both (contains (writers_of s j o) a)) (parent_above up x))

    pub commit_base : (o : ℕ)
        → base_of s (e ∷ j) o
        ≡ cond (contains (writers_of s j o) a && is_none (parent_in s j a)) (visible_to s j a o) (base_of s j o)
    commit_base o =
        let both = λ (b c : Bool). cond (b && c) (seen_in h (a + 1) o) (base entries (model_opening s) h o) in
        rw q (base_after_commit entries (model_opening s) h (a + 1) (happened _ l q)
        (guarded entries (model_opening s).contents h (lawful_steps entries (model_opening s) h (lawful s j l.1))) o
        ∙ ap (λ b. both b (up == 0)) (wrote_it o)
        ∙ ap (both (contains (writers_of s j o) a)) (sym (is_none_base up)))

  module _ (actions : List ℕ) (l : Legal s (e ∷ j)) (q : happens s e j ≡ Some (Aborted (all_in_history actions))) where
    abbrev ended : List ℕ
    ended = all_in_history actions

    under_same : (x : ℕ) → is_under h ended (x + 1) ≡ is_under_in s j actions x
    under_same x = any-map (λ z. is_ancestor h z (x + 1)) (λ b. b + 1) actions

    spared : (xs : List ℕ) → NoBase xs
        → all_in_program (filter (λ x. not (is_under h ended x)) xs)
        ≡ filter (λ x. not (is_under_in s j actions x)) (all_in_program xs)
    spared xs n = grind (arith, nat_tests, filter_in_program, after, under_same)

    pub abort_live : (x : ℕ) → is_live_in s (e ∷ j) x ≡ (is_live_in s j x && not (is_under_in s j actions x))
    abort_live x =
        rw q (live_after_abort h ended (happened _ l q) (x + 1) ∙ ap (λ b. is_live h (x + 1) && not b) (under_same x))

    pub abort_readers : (o : ℕ)
        → readers_of s (e ∷ j) o ≡ filter (λ x. not (is_under_in s j actions x)) (readers_of s j o)
    abort_readers o =
        rw q (ap all_in_program (holders_after_abort (reads entries) h ended (happened _ l q) o)
        ∙ spared (readers entries h o) (readers_above h o))

    pub abort_writers : (o : ℕ)
        → writers_of s (e ∷ j) o ≡ filter (λ x. not (is_under_in s j actions x)) (writers_of s j o)
    abort_writers o =
        rw q (ap all_in_program (holders_after_abort entries.writes h ended (happened _ l q) o)
        ∙ spared (writers entries h o) (writers_above h o))

    pub abort_sees : (x o : ℕ) → is_live_in s (e ∷ j) x ≡ true → visible_to s (e ∷ j) x o ≡ visible_to s j x o
    abort_sees x o k =
        rw q (sees_after_abort entries (model_opening s) h ended (happened _ l q) (x + 1) o
        (live_stands (Aborted ended ▹ h) (happened _ l q) (x + 1) (rw q at k)).1)

    pub abort_base : (o : ℕ) → base_of s (e ∷ j) o ≡ base_of s j o
    abort_base o = rw q (base_after_abort entries (model_opening s) h ended (happened _ l q) o)
