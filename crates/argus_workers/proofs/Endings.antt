-- Who made the calls so far, and how they ended arms.
use Rattle.std.proofs.Common.{All, List, None, Option, Some, [], ap, arith, cond, false, inl, inr, length, map, refl}
use Rattle.std.proofs.Common.{append_assoc, length-append, subst, sym, true, ℕ, ◌&&◌, ◌+◌, ◌++◌, ◌<◌, ◌≤◌, ◌==◌, ◌∙◌}
use Rattle.std.proofs.{Common.{◌∷◌, ◌≡◌, ◌⊎◌}, lemmas.Bool.Decides.nat_tests}
use Rattle.std.proofs.{lemmas.List.{append-nil, length-map, map-append}, lemmas.List.Elements.{All-push, All-weaker}}
use Rattle.argus_actions.specs.declared.action_id.ActionId.{ActionId}
use Rattle.argus_entries.specs.Entry.{PlainEntry}
use Rattle.argus_sharing.specs.Receipt.{PlainReceipt}
use Rattle.argus_workers.specs.Outcomes.{AreShown, IsShown, arm_of, ended_as, is_arm, last_of_arm, later_of}
use Rattle.argus_workers.specs.RunCheck.{CheckState, enter_arm, entries_of_receipts, leave_arm}
use Rattle.argus_workers.specs.{declared.arm_number.ArmNumber.ArmNumber, declared.arm_outcome.ArmOutcome.ArmOutcome}
use Rattle.argus_workers.specs.{declared.ended.Ended.Ended, declared.made_call.MadeCall.MadeCall}
use Rattle.argus_workers.proofs.Keeping.{Keeping}

-- the calls of these receipts, which this arm made
abbrev pub made_by : Option ArmNumber → List PlainReceipt → List MadeCall
made_by n rs = map (λ r. record { arm = n; at = r.at }) rs

-- the last of these entries; where there is none, the one before them
abbrev pub last_of : List PlainReceipt → Option PlainEntry → Option PlainEntry
last_of [] x = x
last_of (r ∷ rs) x = last_of rs (Some r.entry)

-- Between the two states these receipts were told, of calls by whoever made calls before.
pub record IsTold (s t : CheckState) : Type 0 where
  pub made : List PlainReceipt
  pub left : s.left ≡ made ++ t.left
  pub calls : t.calls ≡ s.calls ++ made_by s.arm made
  pub last : t.last ≡ last_of made s.last
  pub arm : t.arm ≡ s.arm
  pub coenters : t.coenters ≡ s.coenters
  pub outcomes : t.outcomes ≡ s.outcomes

last_of_more : (a b : List PlainReceipt) (x : Option PlainEntry) → last_of (a ++ b) x ≡ last_of b (last_of a x)
last_of_more [] b x = refl
last_of_more (r ∷ a) b x = last_of_more a b (Some r.entry)

pub keeping_told : Keeping IsTold
keeping_told = record {
  same = λ s. record {
    made = [];
    left = refl;
    calls = sym (append-nil s.calls);
    last = refl;
    arm = refl;
    coenters = refl;
    outcomes = refl;
  };
  on = λ s t u p q. record {
    made = p.made ++ q.made;
    left = p.left ∙ ap (λ x. p.made ++ x) q.left ∙ sym (append_assoc p.made q.made u.left);
    calls = q.calls ∙ ap (λ n. t.calls ++ made_by n q.made) p.arm ∙ ap (λ cs. cs ++ made_by s.arm q.made) p.calls
        ∙ append_assoc s.calls (made_by s.arm p.made) (made_by s.arm q.made)
        ∙ ap (λ cs. s.calls ++ cs) (sym (map-append _ p.made q.made));
    last = q.last ∙ ap (last_of q.made) p.last ∙ sym (last_of_more p.made q.made s.last);
    arm = q.arm ∙ p.arm;
    coenters = q.coenters ∙ p.coenters;
    outcomes = q.outcomes ∙ p.outcomes;
  };
  told = λ r rest s e. record {
    made = r ∷ [];
    left = e;
    calls = refl;
    last = refl;
    arm = refl;
    coenters = refl;
    outcomes = refl;
  };
}

later_none : (x : Option PlainEntry) → later_of None x ≡ x
later_none None = refl
later_none (Some e) = refl

later_on : (x y z : Option PlainEntry) → later_of (later_of x y) z ≡ later_of x (later_of y z)
later_on x y None = refl
later_on x y (Some e) = refl

last_more : (n : ArmNumber) (cs ds : List MadeCall) (es fs : List PlainEntry) → length cs ≡ length es
    → last_of_arm n (cs ++ ds) (es ++ fs) ≡ later_of (last_of_arm n cs es) (last_of_arm n ds fs)
last_more n [] ds [] fs l = sym (later_none (last_of_arm n ds fs))
last_more n [] ds (e ∷ es) fs l = absurd (omega (arith, l))
last_more n (c ∷ cs) ds [] fs l = absurd (omega (arith, l))
last_more n (c ∷ cs) ds (e ∷ es) fs l =
    ap (later_of (cond (is_arm n c.arm) (Some e) None)) (last_more n cs ds es fs (omega (arith, l)))
    ∙ sym (later_on (cond (is_arm n c.arm) (Some e) None) (last_of_arm n cs es) (last_of_arm n ds fs))

itself : (a b : ℕ) → (a == a && b == b) ≡ true
itself a b = grind (arith, nat_tests)

last_mine : (n : ArmNumber) (rs : List PlainReceipt) (x : Option PlainEntry)
    → later_of x (last_of_arm n (made_by (Some n) rs) (entries_of_receipts rs)) ≡ last_of rs x
last_mine n [] x = refl
last_mine n (r ∷ rs) x =
    let others = last_of_arm n (made_by (Some n) rs) (entries_of_receipts rs) in
    ap (λ b. later_of x (later_of (cond b (Some r.entry) None) others)) (itself n.coenter n.arm)
    ∙ sym (later_on x (Some r.entry) others) ∙ last_mine n rs (Some r.entry)

last_other : (n : ArmNumber) (p : Option ArmNumber) (rs : List PlainReceipt) → is_arm n p ≡ false
    → last_of_arm n (made_by p rs) (entries_of_receipts rs) ≡ None
last_other n p [] e = refl
last_other n p (r ∷ rs) e =
    ap (λ b. later_of (cond b (Some r.entry) None) (last_of_arm n (made_by p rs) (entries_of_receipts rs))) e
    ∙ later_none (last_of_arm n (made_by p rs) (entries_of_receipts rs)) ∙ last_other n p rs e

-- in an earlier coenter, or one of the first k arms of this one
abbrev pub IsBefore : ℕ → ℕ → ArmNumber → Type 0
IsBefore coenter k n = (n.coenter < coenter) ⊎ ((n.coenter ≡ coenter) × (n.arm < k))

abbrev pub AreBefore : ℕ → ℕ → List MadeCall → Type 0
AreBefore coenter k [] = Unit {0}
AreBefore coenter k (c ∷ cs) = ((n : ArmNumber) → c.arm ≡ Some n → IsBefore coenter k n) × AreBefore coenter k cs

-- the outcome is shown by the calls so far, and its arm runs no more
abbrev pub IsSettled : List MadeCall → List PlainReceipt → ℕ → ℕ → ArmOutcome → Type 0
IsSettled calls told coenter k x = IsShown calls (entries_of_receipts told) x × IsBefore coenter k (arm_of x)

-- of the receipts these were told and those are left, and each outcome is shown by the calls so far
pub record AreShownSo (receipts told left : List PlainReceipt) (coenter k : ℕ) (calls : List MadeCall)
    (outcomes : List ArmOutcome) : Type 0 where
  pub parts : receipts ≡ told ++ left
  pub together : length calls ≡ length told
  pub before : AreBefore coenter k calls
  pub shown : All (IsSettled calls told coenter k) outcomes

unlike : (a b c d : ℕ) → (c < a) ⊎ ((c ≡ a) × (d < b)) → (a == c && b == d) ≡ false
unlike a b c d (inl l) = grind (arith, nat_tests)
unlike a b c d (inr (e, l)) = grind (arith, nat_tests)

unlike_back : (a b c d : ℕ) → (c < a) ⊎ ((c ≡ a) × (d < b)) → (c == a && d == b) ≡ false
unlike_back a b c d (inl l) = grind (arith, nat_tests)
unlike_back a b c d (inr (e, l)) = grind (arith, nat_tests)

later_arms : (coenter k m : ℕ) (n : ArmNumber) → k ≤ m → IsBefore coenter k n → IsBefore coenter m n
later_arms coenter k m n l (inl h) = inl h
later_arms coenter k m n l (inr (e, h)) = inr (e, omega (arith, l, h))

before_on : (coenter k d m : ℕ) (calls : List MadeCall) → ((n : ArmNumber) → IsBefore coenter k n → IsBefore d m n)
    → AreBefore coenter k calls → AreBefore d m calls
before_on coenter k d m [] f h = tt
before_on coenter k d m (c ∷ cs) f h = (λ n e. f n (h.0 n e), before_on coenter k d m cs f h.1)

before_made : (coenter k : ℕ) (p : Option ArmNumber) (rs : List PlainReceipt)
    → ((n : ArmNumber) → p ≡ Some n → IsBefore coenter k n) → AreBefore coenter k (made_by p rs)
before_made coenter k p [] f = tt
before_made coenter k p (r ∷ rs) f = (f, before_made coenter k p rs f)

before_both : (coenter k : ℕ) (cs ds : List MadeCall) → AreBefore coenter k cs → AreBefore coenter k ds
    → AreBefore coenter k (cs ++ ds)
before_both coenter k [] ds h g = g
before_both coenter k (c ∷ cs) ds h g = (h.0, before_both coenter k cs ds h.1 g)

-- an arm has made none of the calls before it
is_new : (c : Option ArmNumber) (coenter k : ℕ) → ((n : ArmNumber) → c ≡ Some n → IsBefore coenter k n)
    → is_arm (record { coenter = coenter; arm = k }) c ≡ false
is_new None coenter k f = refl
is_new (Some n) coenter k f = unlike coenter k n.coenter n.arm (f n refl)

none_yet : (coenter k : ℕ) (calls : List MadeCall) (es : List PlainEntry) → AreBefore coenter k calls
    → last_of_arm (record { coenter = coenter; arm = k }) calls es ≡ None
none_yet coenter k [] es h = refl
none_yet coenter k (c ∷ cs) [] h = refl
none_yet coenter k (c ∷ cs) (e ∷ es) h =
    let n : ArmNumber = record { coenter = coenter; arm = k } in
    ap (λ b. later_of (cond b (Some e) None) (last_of_arm n cs es)) (is_new c.arm coenter k h.0)
    ∙ later_none (last_of_arm n cs es) ∙ none_yet coenter k cs es h.1

entries_more : (a b : List PlainReceipt) → entries_of_receipts (a ++ b) ≡ entries_of_receipts a ++ entries_of_receipts b
entries_more a b = map-append _ a b

-- the arm with this number of the coenter that runs
abbrev pub running : ℕ → CheckState → ArmNumber
running k s = record { coenter = s.coenters; arm = k }

module _ (receipts : List PlainReceipt) where
  -- more receipts are told, of calls by an arm that has no outcome yet, or by none
  more_told : (told left rest made : List PlainReceipt) (coenter k m : ℕ) (p : Option ArmNumber)
      (calls : List MadeCall) (outcomes : List ArmOutcome) → AreShownSo receipts told left coenter k calls outcomes
      → left ≡ made ++ rest → k ≤ m → ((n : ArmNumber) → p ≡ Some n → IsBefore coenter m n)
      → ((n : ArmNumber) → IsBefore coenter k n → is_arm n p ≡ false)
      → AreShownSo receipts (told ++ made) rest coenter m (calls ++ made_by p made) outcomes
  more_told told left rest made coenter k m p calls outcomes h e l f g = record {
    parts = h.parts ∙ ap (λ x. told ++ x) e ∙ sym (append_assoc told made rest);
    together = length-append calls (made_by p made) ∙ ap (λ x. x + length (made_by p made)) h.together
        ∙ ap (λ x. length told + x) (length-map made _) ∙ sym (length-append told made);
    before = before_both coenter m calls (made_by p made)
        (before_on coenter k coenter m calls (λ n b. later_arms coenter k m n l b) h.before)
        (before_made coenter m p made f);
    shown = All-weaker (IsSettled calls told coenter k) (IsSettled (calls ++ made_by p made) (told ++ made) coenter m)
        (λ x s. (same_shown x s.0 (g (arm_of x) s.1), later_arms coenter k m (arm_of x) l s.1)) outcomes h.shown;
  }
    where
      same_last : (n : ArmNumber) → is_arm n p ≡ false
          → last_of_arm n (calls ++ made_by p made) (entries_of_receipts (told ++ made))
          ≡ last_of_arm n calls (entries_of_receipts told)
      same_last n q = ap (last_of_arm n (calls ++ made_by p made)) (entries_more told made)
          ∙ last_more n calls (made_by p made) (entries_of_receipts told) (entries_of_receipts made)
          (h.together ∙ sym (length-map told _))
          ∙ ap (later_of (last_of_arm n calls (entries_of_receipts told))) (last_other n p made q)

      same_shown : (x : ArmOutcome) → IsShown calls (entries_of_receipts told) x → is_arm (arm_of x) p ≡ false
          → IsShown (calls ++ made_by p made) (entries_of_receipts (told ++ made)) x
      same_shown x s q = ap (ended_as x.action) (same_last (arm_of x) q) ∙ s

  pub told_outside : (k : ℕ) (s t : CheckState) → s.arm ≡ None → (told : List PlainReceipt)
      → AreShownSo receipts told s.left s.coenters k s.calls s.outcomes → IsTold s t
      → (t.arm ≡ None) × (now : List PlainReceipt) × AreShownSo receipts now t.left t.coenters k t.calls t.outcomes
  told_outside k s t a told h p = (
    p.arm ∙ a,
    told ++ p.made,
    rw (p.coenters, p.calls, p.outcomes)
        (more_told told s.left t.left p.made s.coenters k k s.arm s.calls s.outcomes h p.left (omega arith)
        (λ n e. absurd (none_is (sym a ∙ e))) (λ n b. ap (is_arm n) a)),
  )
    where
      none_is : {n : ArmNumber} → None ≡ Some n → ⊥
      none_is e = cc

  pub told_in_arm : (k : ℕ) (b : Option ActionId) (ended : Ended) (s t : CheckState) (told : List PlainReceipt)
      → AreShownSo receipts told s.left s.coenters k s.calls s.outcomes → IsTold (enter_arm k s) t
      → ended_as b t.last ≡ Some ended
      → (now : List PlainReceipt) × AreShownSo receipts now t.left t.coenters (k + 1) t.calls
      (leave_arm k b ended t).outcomes
  told_in_arm k b ended s t told h p e = (
    told ++ p.made,
    rw (p.coenters, p.calls, p.outcomes) (record {
      parts = next.parts;
      together = next.together;
      before = next.before;
      shown = All-push (IsSettled (s.calls ++ made_by (Some (running k s)) p.made) (told ++ p.made) s.coenters (k + 1))
          s.outcomes (record { coenter = s.coenters; arm = k; action = b; ended = ended }) next.shown
          (shown, inr (refl, omega arith));
    }),
  )
    where
      only : (n : ArmNumber) → Some (running k s) ≡ Some n → IsBefore s.coenters (k + 1) n
      only n q = subst (IsBefore s.coenters (k + 1)) (some_same q) (inr (refl, omega arith))
        where
          some_same : {x y : ArmNumber} → Some x ≡ Some y → x ≡ y
          some_same q = cc

      next : AreShownSo receipts (told ++ p.made) t.left s.coenters (k + 1) (s.calls ++ made_by (Some (running k s)) p.made)
          s.outcomes
      next = more_told told s.left t.left p.made s.coenters k (k + 1) (Some (running k s)) s.calls s.outcomes h p.left
          (omega arith) only (λ n q. unlike_back s.coenters k n.coenter n.arm q)

      last : last_of_arm (running k s) (s.calls ++ made_by (Some (running k s)) p.made) (entries_of_receipts (told ++ p.made)) ≡ t.last
      last = ap (last_of_arm (running k s) (s.calls ++ made_by (Some (running k s)) p.made)) (entries_more told p.made)
          ∙ last_more (running k s) s.calls (made_by (Some (running k s)) p.made) (entries_of_receipts told) (entries_of_receipts p.made)
          (h.together ∙ sym (length-map told _))
          ∙ ap (λ x. later_of x (last_of_arm (running k s) (made_by (Some (running k s)) p.made) (entries_of_receipts p.made)))
          (none_yet s.coenters k s.calls (entries_of_receipts told) h.before)
          ∙ last_mine (running k s) p.made None ∙ sym p.last

      shown : IsShown (s.calls ++ made_by (Some (running k s)) p.made) (entries_of_receipts (told ++ p.made))
          (record { coenter = s.coenters; arm = k; action = b; ended = ended })
      shown = ap (ended_as b) last ∙ e

  -- a coenter more has run
  pub behind_coenter : (told : List PlainReceipt) (k : ℕ) (s : CheckState)
      → AreShownSo receipts told s.left s.coenters k s.calls s.outcomes
      → AreShownSo receipts told s.left (s.coenters + 1) 0 s.calls s.outcomes
  behind_coenter told k s h = record {
    parts = h.parts;
    together = h.together;
    before = before_on s.coenters k (s.coenters + 1) 0 s.calls over h.before;
    shown = All-weaker (IsSettled s.calls told s.coenters k) (IsSettled s.calls told (s.coenters + 1) 0)
        (λ x q. (q.0, over (arm_of x) q.1)) s.outcomes h.shown;
  }
    where
      over : (n : ArmNumber) → IsBefore s.coenters k n → IsBefore (s.coenters + 1) 0 n
      over n (inl l) = inl (omega (arith, l))
      over n (inr (e, l)) = inl (omega (arith, e))

  -- no call was made yet
  pub none_shown : AreShownSo receipts [] receipts 0 0 [] []
  none_shown = record {
    parts = refl;
    together = refl;
    before = tt;
    shown = λ i d l. absurd (omega (arith, l));
  }

  -- all receipts are told
  pub shown_whole : (told left : List PlainReceipt) (coenter k : ℕ) (calls : List MadeCall)
      (outcomes : List ArmOutcome) → AreShownSo receipts told left coenter k calls outcomes → left ≡ []
      → AreShown calls (entries_of_receipts receipts) outcomes
  shown_whole told left coenter k calls outcomes h e =
      let all : told ≡ receipts = sym (h.parts ∙ ap (λ x. told ++ x) e ∙ append-nil told) in
      All-weaker (IsSettled calls told coenter k) (IsShown calls (entries_of_receipts receipts))
      (λ x q. subst (λ rs. IsShown calls (entries_of_receipts rs) x) all q.0) outcomes h.shown
