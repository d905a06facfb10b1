-- The levels of open blocks say the same of a line's place as the unmatched opening lines.
use Rattle.std.proofs.Common.{◌≡◌, ℕ, zero, suc, ◌+◌, ◌<◌, ◌≤◌, ◌==◌, Bool, true, false, not, ◌&&◌, ◌||◌, List, [], ◌∷◌}
use Rattle.std.proofs.{Common.{length, drop, refl, sym, ◌∙◌, ap, arith, add-one}, lemmas.Bool.Decides.nat_tests}
use Rattle.argus_language.specs.{Command.Command, Placement.{is_body, is_coenter, is_top, may_leave_all, takes_arm}}
use Rattle.argus_language.specs.Levels.{behind_arm, depth_of, levels_after, may_follow, place_of, with_arm}
use Rattle.argus_language.specs.OpeningLines.{at_top, command_at, has_arm, holds_action, in_action, in_arm_of_action}
use Rattle.argus_language.specs.OpeningLines.{in_coenter_for, is_arm_line, is_innermost, lets_leave_all}
use Rattle.argus_language.specs.OpeningLines.{may_stand_behind, opens, takes_arm_line, unmatched, unmatched_behind}
use Rattle.argus_language.specs.declared.{action_kind.ActionKind.ActionKind, level.Level.Level}
use Rattle.argus_language.specs.Command as command

-- The levels of a block that a line with this command opened, around which these are: it says
-- whether there is an arm.
abbrev pub with_arm_if : Bool → List Level → List Level
with_arm_if true ls = with_arm ls
with_arm_if false ls = ls

abbrev pub opened : Command → ℕ → Bool → List Level → List Level
opened command.coenter m a ls = with_arm_if a (levels_after command.coenter m ls)
opened c m a ls = levels_after c m ls

opened_top : (c : Command) (m : ℕ) (a : Bool) (ls : List Level) → opens c ≡ true
    → is_top (place_of (opened c m a ls)) ≡ false
opened_top p m q ls e = grind arith

opened_body : (c : Command) (m : ℕ) (a : Bool) (ls : List Level) → opens c ≡ true
    → is_body (place_of (opened c m a ls)) ≡ holds_action c a
opened_body p m q ls e = grind arith

opened_coenter : (c : Command) (m : ℕ) (a : Bool) (ls : List Level) → opens c ≡ true
    → not (is_coenter (place_of (opened c m a ls))) ≡ holds_action c a
opened_coenter p m q ls e = grind arith

opened_takes : (k : ActionKind) (c : Command) (m : ℕ) (a : Bool) (ls : List Level) (outer : List ℕ)
    → opens c ≡ true → is_top (place_of ls) ≡ at_top outer
    → takes_arm k (place_of (behind_arm (opened c m a ls))) ≡ takes_arm_line k c outer
opened_takes p q m r ls outer e t = grind arith

opened_leave : (c : Command) (m : ℕ) (a further : Bool) (ls : List Level) (outer : List ℕ)
    → opens c ≡ true → is_top (place_of ls) ≡ at_top outer → may_leave_all (place_of ls) ≡ further
    → may_leave_all (place_of (opened c m a ls)) ≡ lets_leave_all c (at_top outer) a further
opened_leave p m q further ls outer e t f = grind arith

opened_depth : (c : Command) (m : ℕ) (a : Bool) (ls : List Level) → opens c ≡ true
    → depth_of (opened c m a ls) ≡ depth_of ls + 1
opened_depth p m q ls e = grind arith

-- the block's own level is in front
pub record IsFront (m : ℕ) (ls : List Level) : Type 0 where
  pub innermost : Level
  pub outer : List Level
  pub levels : ls ≡ innermost ∷ outer
  pub line : innermost.line ≡ m

pub opened_front : (c : Command) (m : ℕ) (a : Bool) (ls : List Level) → opens c ≡ true → IsFront m (opened c m a ls)
opened_front p m a ls e = grind arith

-- an `end` drops it
opened_ended : (c : Command) (m : ℕ) (a : Bool) (ls : List Level) → opens c ≡ true
    → drop 1 (behind_arm (opened c m a ls)) ≡ ls
opened_ended p m q ls e = grind arith

-- where an arm may begin, one more is there
opened_arm : (k : ActionKind) (c : Command) (m : ℕ) (a : Bool) (ls : List Level) → opens c ≡ true
    → takes_arm k (place_of (behind_arm (opened c m a ls))) ≡ true
    → with_arm (behind_arm (opened c m a ls)) ≡ opened c m true ls
opened_arm k p m q ls e t = grind arith

-- an opening line adds it, without an arm
opened_new : (c : Command) (m : ℕ) (ls : List Level) → levels_after c m ls ≡ opened c m false ls
opened_new p m ls = grind arith

unequal : (i j : ℕ) → j < i → (j == i) ≡ false
unequal i j l = grind arith

equal : (i : ℕ) → (i == i) ≡ true
equal i = grind arith

module _ (lines : List (List ℕ)) where
  -- The last of these opening lines is before the line at n, and since then no arm line stands
  -- directly in a line before it; and so on for the others, each before the one in front of it.
  abbrev pub AreNested : ℕ → List ℕ → Type 0
  AreNested n [] = Unit {0}
  AreNested n (i ∷ outer) = (i < n) × (opens (command_at lines i) ≡ true)
      × ((j : ℕ) → j < i → has_arm lines n j ≡ has_arm lines i j) × AreNested i outer

  -- the levels of these opening lines, before the line at n
  abbrev pub levels_by : ℕ → List ℕ → List Level
  levels_by n [] = []
  levels_by n (i ∷ outer) = opened (command_at lines i) (i + 1) (has_arm lines n i) (levels_by i outer)

  -- what the next line does to the arm lines that are directly in others
  abbrev ArmsNext : ℕ → Command → List ℕ → Type 0
  ArmsNext n c openings = (j : ℕ) → has_arm lines (suc n) j ≡ ((is_arm_line c && is_innermost j openings) || has_arm lines n j)

  -- no more arm lines are directly in the lines before the innermost
  abbrev NoneWithin : ℕ → List ℕ → Type 0
  NoneWithin n [] = Unit {0}
  NoneWithin n (i ∷ outer) = (j : ℕ) → j < i → has_arm lines (suc n) j ≡ has_arm lines n j

  nested_on : (n : ℕ) (openings : List ℕ) → AreNested n openings → NoneWithin n openings → AreNested (suc n) openings
  nested_on n p h g = grind arith

  nested_ended : (n : ℕ) (openings : List ℕ) → AreNested n openings → ((j : ℕ) → has_arm lines (suc n) j ≡ has_arm lines n j)
      → AreNested (suc n) (drop 1 openings)
  nested_ended n [] h g = tt
  nested_ended n (i ∷ []) h g = tt
  nested_ended n (i ∷ k ∷ outer) h g = (
    omega (arith, h.0, h.3.0),
    h.3.1,
    λ j l. g j
        ∙ h.2 j (omega (arith, l, h.3.0)) ∙ h.3.2 j l,
    h.3.3,
  )

  none_by : (n : ℕ) (openings : List ℕ) → ((j : ℕ) → has_arm lines (suc n) j ≡ has_arm lines n j) → NoneWithin n openings
  none_by n p g = grind arith

  no_arm_of : (b c : Bool) → b ≡ false → ((true && b) || c) ≡ c
  no_arm_of p c e = grind arith

  none_armed : (n : ℕ) (k : ActionKind) (openings : List ℕ) → ArmsNext n (command.arm k) openings → NoneWithin n openings
  none_armed n k p a = grind (arith, no_arm_of, unequal)

  nested_next : (n : ℕ) (c : Command) (openings : List ℕ) → command_at lines n ≡ c → AreNested n openings → ArmsNext n c openings
      → AreNested (suc n) (unmatched_behind c n openings)
  nested_next n (command.enter k) openings e h a = (omega arith, ap opens e, λ j l. a j, h)
  nested_next n (command.test x y) openings e h a = (omega arith, ap opens e, λ j l. a j, h)
  nested_next n command.coenter openings e h a = (omega arith, ap opens e, λ j l. a j, h)
  nested_next n (command.arm k) openings e h a = nested_on n openings h (none_armed n k openings a)
  nested_next n command.«end» openings e h a = nested_ended n openings h a
  nested_next n c openings e h a = nested_on n openings h (none_by n openings a)

  pub are_nested : (n : ℕ) → AreNested n (unmatched lines n)
  are_nested zero = tt
  are_nested (suc n) = nested_next n (command_at lines n) (unmatched lines n) refl (are_nested n) (λ j. refl)

  not_innermost : (n i : ℕ) (openings : List ℕ) → AreNested n openings → n ≤ i → is_innermost i openings ≡ false
  not_innermost n i p h l = grind (arith, nat_tests)

  no_arm_from : (a b c : Bool) → b ≡ false → c ≡ false → ((a && b) || c) ≡ false
  no_arm_from p b c e f = grind arith

  -- no arm line is directly in a line that comes later
  none_yet : (n i : ℕ) → n ≤ suc i → has_arm lines n i ≡ false
  none_yet zero i l = refl
  none_yet (suc n) i l = no_arm_from (is_arm_line (command_at lines n)) (is_innermost i (unmatched lines n))
      (has_arm lines n i) (not_innermost n i (unmatched lines n) (are_nested n) (omega (arith, l)))
      (none_yet n i (omega (arith, l)))

  levels_on : (n m : ℕ) (i : ℕ) (openings : List ℕ) → AreNested i openings
      → ((j : ℕ) → j < i → has_arm lines n j ≡ has_arm lines m j) → levels_by n openings ≡ levels_by m openings
  levels_on n m i [] h g = refl
  levels_on n m i (k ∷ outer) h g = ap (λ a. opened (command_at lines k) (k + 1) a (levels_by k outer)) (g k h.0)

  top_same : (n : ℕ) (openings : List ℕ) → AreNested n openings → is_top (place_of (levels_by n openings)) ≡ at_top openings
  top_same n p h = grind (arith, opened_top)

  body_same : (n : ℕ) (openings : List ℕ) → AreNested n openings
      → is_body (place_of (levels_by n openings)) ≡ in_action lines n openings
  body_same n p h = grind (arith, opened_body)

  coenter_same : (n : ℕ) (openings : List ℕ) → AreNested n openings
      → not (is_coenter (place_of (levels_by n openings))) ≡ (at_top openings || in_action lines n openings)
  coenter_same n p h = grind (arith, opened_coenter)

  arm_same : (k : ActionKind) (n : ℕ) (openings : List ℕ) → AreNested n openings
      → takes_arm k (place_of (behind_arm (levels_by n openings))) ≡ in_coenter_for k lines openings
  arm_same k n p h = grind (arith, opened_takes, top_same)

  leave_on : (n m i l : ℕ) (openings : List ℕ) → AreNested l openings → l ≤ i
      → ((j : ℕ) → j < i → has_arm lines n j ≡ has_arm lines m j)
      → in_arm_of_action lines n openings ≡ in_arm_of_action lines m openings
  leave_on n m i l [] h e g = refl
  leave_on n m i l (k ∷ outer) h e g = grind (arith, leave_on n m i k outer h.3 (omega (arith, h.0, e)) g)

  leave_same : (n : ℕ) (openings : List ℕ) → AreNested n openings
      → may_leave_all (place_of (levels_by n openings)) ≡ in_arm_of_action lines n openings
  leave_same n [] h = refl
  leave_same n (i ∷ outer) h = opened_leave (command_at lines i) (i + 1) (has_arm lines n i)
      (in_arm_of_action lines n outer) (levels_by i outer) outer h.1 (top_same i outer h.3)
      (leave_same i outer h.3 ∙ sym (leave_on n i i i outer h.3 (omega arith) h.2))

  pub depth_same : (n : ℕ) (openings : List ℕ) → AreNested n openings → depth_of (levels_by n openings) ≡ length openings
  depth_same n [] h = refl
  depth_same n (i ∷ outer) h = opened_depth (command_at lines i) (i + 1) (has_arm lines n i) (levels_by i outer) h.1
      ∙ ap (λ d. d + 1) (depth_same i outer h.3) ∙ add-one (length outer)

  -- a line may stand where its unmatched opening lines say so
  pub may_same : (c : Command) (n : ℕ) (openings : List ℕ) → AreNested n openings
      → may_follow c (levels_by n openings) ≡ may_stand_behind c lines n openings
  may_same p n openings h = grind (arith, top_same, coenter_same, arm_same, leave_same, body_same)

  -- an opening line
  one_more : (n : ℕ) (c : Command) (openings : List ℕ) → command_at lines n ≡ c
      → levels_after c (n + 1) (levels_by n openings) ≡ levels_by (suc n) (n ∷ openings)
  one_more n c openings e = opened_new c (n + 1) (levels_by n openings)
      ∙ sym (ap (λ x. opened x (n + 1) (has_arm lines (suc n) n) (levels_by n openings)) e
      ∙ ap (λ a. opened c (n + 1) a (levels_by n openings)) (none_yet (suc n) n (omega arith)))

  one_less : (n : ℕ) (openings : List ℕ) → AreNested n openings → ((j : ℕ) → has_arm lines (suc n) j ≡ has_arm lines n j)
      → drop 1 (behind_arm (levels_by n openings)) ≡ levels_by (suc n) (drop 1 openings)
  one_less n [] h g = refl
  one_less n (i ∷ outer) h g = opened_ended (command_at lines i) (i + 1) (has_arm lines n i) (levels_by i outer) h.1
      ∙ levels_on i (suc n) i outer h.3 (λ j l. sym (g j ∙ h.2 j l))

  an_arm : (b c : Bool) → b ≡ true → ((true && b) || c) ≡ true
  an_arm p c e = grind arith

  one_arm : (n : ℕ) (k : ActionKind) (openings : List ℕ) → AreNested n openings → ArmsNext n (command.arm k) openings
      → takes_arm k (place_of (behind_arm (levels_by n openings))) ≡ true
      → with_arm (behind_arm (levels_by n openings)) ≡ levels_by (suc n) openings
  one_arm n k [] h a t = refl
  one_arm n k (i ∷ outer) h a t =
      opened_arm k (command_at lines i) (i + 1) (has_arm lines n i) (levels_by i outer) h.1 t
      ∙ ap (λ b. opened (command_at lines i) (i + 1) b (levels_by i outer))
      (sym (a i ∙ an_arm (i == i) (has_arm lines n i) (equal i)))

  levels_next : (n : ℕ) (c : Command) (openings : List ℕ) → command_at lines n ≡ c → AreNested n openings
      → ArmsNext n c openings → may_follow c (levels_by n openings) ≡ true
      → levels_after c (n + 1) (levels_by n openings) ≡ levels_by (suc n) (unmatched_behind c n openings)
  levels_next n (command.enter k) openings e h a m = one_more n (command.enter k) openings e
  levels_next n (command.test x y) openings e h a m = one_more n (command.test x y) openings e
  levels_next n command.coenter openings e h a m = one_more n command.coenter openings e
  levels_next n (command.arm k) openings e h a m = one_arm n k openings h a m
  levels_next n command.«end» openings e h a m = one_less n openings h a
  levels_next n c openings e h a m = levels_on n (suc n) n openings h (λ j l. sym (a j))

  -- the levels before the next line are those of the opening lines that are then unmatched
  pub levels_more : (n : ℕ) → may_follow (command_at lines n) (levels_by n (unmatched lines n)) ≡ true
      → levels_after (command_at lines n) (n + 1) (levels_by n (unmatched lines n))
      ≡ levels_by (suc n) (unmatched lines (suc n))
  levels_more n m = levels_next n (command_at lines n) (unmatched lines n) refl (are_nested n) (λ j. refl) m
