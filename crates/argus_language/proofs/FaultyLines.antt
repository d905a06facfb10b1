-- The fault of a script by its levels is the one by its unmatched opening lines.
use Rattle.std.proofs.Common.{◌≡◌, ◌↔◌, ℕ, zero, suc, ◌+◌, ◌<◌, ◌≤◌, ◌⊎◌, inl, inr, Bool, true, cond, List, [], ◌∷◌}
use Rattle.std.proofs.Common.{length, take, get_or, sum_by, Some, None, refl, sym, ◌∙◌, ap, subst, arith, add-one}
use Rattle.std.proofs.lemmas.{List.{take_more, take_all, Sums.sum_by_more}, Option.get_or_from_slice_get}
use Rattle.std.proofs.lemmas.Option.{slice_get-get_or, slice_get_within}
use Rattle.argus_language.specs.{Command.command_of, Fault.{position_behind, FineAt, FineBefore, FirstFault, HasFault}}
use Rattle.argus_language.specs.Fault.{HasWordFault, IsFaultOf, NoFault, Unclosed, WordsAreFine, is_bad, line_fault}
use Rattle.argus_language.specs.{Fault.position_at, FaultyLines.{fault_at, is_past_limits_at, AreFineLines}}
use Rattle.argus_language.specs.FaultyLines.{HasNoFaultyLine, IsFaultyLine, IsFineLine, IsFirstFaultyLine}
use Rattle.argus_language.specs.{Laws.LevelsTellUnmatchedLines, Levels.{depth_of, levels_after, may_follow}}
use Rattle.argus_language.specs.{Lines.line_text, OpeningLines.{command_at, has_arm, may_stand_at, unmatched}}
use Rattle.argus_language.specs.declared.{fault_kind.FaultKind.FaultKind, level.Level.Level}
use Rattle.argus_language.specs.declared.script_fault.ScriptFault.{ScriptFault}
use Rattle.argus_language.proofs.{Faults.position-more, OpeningLines.{may_same, opened_front, AreNested, IsFront}}
use Rattle.argus_language.proofs.OpeningLines.{are_nested, depth_same, levels_by, levels_more}
use Rattle.argus_language.specs.declared.fault_kind.FaultKind.TheVariants as kind

-- the last test of three
last-test : {A : Type 0} (a b c : Bool) (x y z : A) → cond a (Some x) (cond b (Some y) (cond c None (Some z))) ≡ None
    → c ≡ true
last-test p q r x y z e = grind arith

module _ (lines : List (List ℕ)) where
  -- the levels of what is unmatched before the line at n
  abbrev levels : ℕ → List Level
  levels n = levels_by lines n (unmatched lines n)

  -- what stands before the line at n is what the unmatched opening lines say
  abbrev pub IsTold : ℕ → Type 0
  IsTold n = position_behind (take n lines) ≡ position_at n (sum_by length (take n lines)) (levels n)

  depth : (n : ℕ) → depth_of (levels n) ≡ length (unmatched lines n)
  depth n = depth_same lines n (unmatched lines n) (are_nested lines n)

  may : (n : ℕ) → may_follow (command_at lines n) (levels n) ≡ may_stand_at lines n
  may n = may_same lines (command_at lines n) n (unmatched lines n) (are_nested lines n)

  look : (n m : ℕ) → IsTold n → line_fault (position_behind (take n lines)) m (get_or lines n []) ≡ fault_at lines n m
  look n m p = grind (arith, depth, may)

  stands : (n m : ℕ) → fault_at lines n m ≡ None → may_stand_at lines n ≡ true
  stands n m e = last-test (is_past_limits_at lines n m) (is_bad (command_at lines n)) (may_stand_at lines n)
      kind.TooLong kind.BadWord kind.Misplaced e

  told_more : (n : ℕ) → n < length lines → IsTold n → may_stand_at lines n ≡ true → IsTold (suc n)
  told_more n l p m = subst IsTold (add-one n) (position-more lines n (sum_by length (take n lines))
      (sum_by length (take (n + 1) lines)) (get_or lines n []) (levels n) (levels (n + 1)) (take_more lines n [] l) p
      (sym (sum_by_more length lines n [] l))
      (subst (λ k. levels k ≡ levels_after (command_at lines n) (n + 1) (levels n)) (sym (add-one n))
      (sym (levels_more lines n (may n ∙ m)))))

  fine-said : (n : ℕ) → IsTold n → FineAt lines n → IsFineLine lines n
  fine-said n p f =
      let line : get_or lines n [] ≡ f.line = get_or_from_slice_get lines n f.line [] f.here in
      let m = length f.objects.names in
      record {
        within = slice_get_within lines n f.line f.here;
        objects = f.objects;
        declared = f.declared;
        fine = (
          sym (look n m p) ∙ ap (line_fault (position_behind (take n lines)) m) line ∙ f.fine.0,
          subst (λ x. WordsAreFine (command_of (line_text x)) f.objects) (sym line) f.fine.1,
        );
      }

  fine-told : (n : ℕ) → IsTold n → IsFineLine lines n → FineAt lines n
  fine-told n p f = record {
    line = get_or lines n [];
    here = slice_get-get_or lines n [] f.within;
    objects = f.objects;
    declared = f.declared;
    fine = (look n (length f.objects.names) p ∙ f.fine.0, f.fine.1);
  }

  told_on : (n : ℕ) → n < length lines → IsTold n → IsFineLine lines n → IsTold (suc n)
  told_on n l p f = told_more n l p (stands n (length f.objects.names) f.fine.0)

  told_by : (n : ℕ) → n ≤ length lines → AreFineLines lines n → IsTold n
  told_by zero l f = refl
  told_by (suc n) l f = told_on n (omega (arith, l)) (told_by n (omega (arith, l)) (λ i h. f i (omega (arith, h))))
      (f n (omega arith))

  told_of : (n : ℕ) → n ≤ length lines → FineBefore lines n → IsTold n
  told_of zero l f = refl
  told_of (suc n) l f =
      let p : IsTold n = told_of n (omega (arith, l)) (λ i h. f i (omega (arith, h))) in
      told_on n (omega (arith, l)) p (fine-said n p (f n (omega arith)))

  fine_said : (n : ℕ) → n ≤ length lines → FineBefore lines n → AreFineLines lines n
  fine_said n l f = λ i h. fine-said i (told_of i (omega (arith, l, h)) (λ j k. f j (omega (arith, k, h)))) (f i h)

  fine_told : (n : ℕ) → n ≤ length lines → AreFineLines lines n → FineBefore lines n
  fine_told n l f = λ i h. fine-told i (told_by i (omega (arith, l, h)) (λ j k. f j (omega (arith, k, h)))) (f i h)

  fault-said : (i : ℕ) (k : FaultKind) → FirstFault lines i k → IsFaultyLine lines i k × AreFineLines lines i
  fault-said i k f =
      let line : get_or lines i [] ≡ f.line = get_or_from_slice_get lines i f.line [] f.here in
      let within : i < length lines = slice_get_within lines i f.line f.here in
      let p : IsTold i = told_of i (omega (arith, within)) f.before in
      let m = length f.objects.names in
      let fault : HasFault (position_behind (take i lines)) f.objects (get_or lines i []) k =
      subst (λ x. HasFault (position_behind (take i lines)) f.objects x k) (sym line) f.fault in (
        record {
          within = within;
          objects = f.objects;
          declared = f.declared;
          fault = subst (λ x. (x ≡ Some k) ⊎ ((x ≡ None) × HasWordFault (command_at lines i) f.objects k)) (look i m p)
              fault;
        },
        fine_said i (omega (arith, within)) f.before,
      )

  fault-told : (i : ℕ) (k : FaultKind) → IsFaultyLine lines i k → AreFineLines lines i → FirstFault lines i k
  fault-told i k f before =
      let p : IsTold i = told_by i (omega (arith, f.within)) before in
      let m = length f.objects.names in
      record {
        line = get_or lines i [];
        here = slice_get-get_or lines i [] f.within;
        objects = f.objects;
        declared = f.declared;
        fault = subst (λ x. (x ≡ Some k) ⊎ ((x ≡ None) × HasWordFault (command_at lines i) f.objects k))
            (sym (look i m p)) f.fault;
        before = fine_told i (omega (arith, f.within)) before;
      }

  told_whole : IsTold (length lines) → (position_behind lines).levels ≡ levels (length lines)
  told_whole p = ap (λ x. (position_behind x).levels) (sym (take_all (length lines) lines (omega arith)))
      ∙ ap (λ q. q.levels) p

  -- the innermost level is that of the innermost opening line
  abbrev Innermost : List ℕ → Level → Type 0
  Innermost openings innermost = (i : ℕ) × (outer : List ℕ) × (innermost.line ≡ i + 1) × (openings ≡ i ∷ outer)

  innermost_of : (n : ℕ) (openings : List ℕ) → AreNested lines n openings → (innermost : Level) (outer : List Level)
      → levels_by lines n openings ≡ innermost ∷ outer → Innermost openings innermost
  innermost_of n [] h innermost outer e = absurd (cc)
  innermost_of n (i ∷ os) h innermost outer e = let front : IsFront (i + 1) (levels_by lines n (i ∷ os)) =
      opened_front (command_at lines i) (i + 1) (has_arm lines n i) (levels_by lines i os) h.1 in
      let both : front.innermost ∷ front.outer ≡ innermost ∷ outer = sym front.levels ∙ e in
      let same : front.innermost ≡ innermost = cc in
      (i, os, sym (ap (λ l. l.line) same) ∙ front.line, refl)

  front_of : (n i : ℕ) (os : List ℕ) → AreNested lines n (i ∷ os) → IsFront (i + 1) (levels_by lines n (i ∷ os))
  front_of n i os h = opened_front (command_at lines i) (i + 1) (has_arm lines n i) (levels_by lines i os) h.1

  closed_of : (n : ℕ) (openings : List ℕ) → AreNested lines n openings → levels_by lines n openings ≡ [] → openings ≡ []
  closed_of n [] h e = refl
  closed_of n (i ∷ os) h e =
      let front : IsFront (i + 1) (levels_by lines n (i ∷ os)) = front_of n i os h in
      let both : front.innermost ∷ front.outer ≡ [] = sym front.levels ∙ e in absurd (cc)

  unclosed-said : (number : ℕ) → Unclosed lines number → (i : ℕ) × (outer : List ℕ) × (number ≡ i + 1)
      × (unmatched lines (length lines) ≡ i ∷ outer)
  unclosed-said number u =
      let n = length lines in
      let p : IsTold n = told_of n (omega arith) u.before in
      let found = innermost_of n (unmatched lines n) (are_nested lines n) u.innermost u.outer (sym (told_whole p)
      ∙ u.levels) in
      (found.0, found.1, sym u.line ∙ found.2, found.3)

  unclosed-told : (number i : ℕ) (outer : List ℕ) → AreFineLines lines (length lines) → number ≡ i + 1
      → unmatched lines (length lines) ≡ i ∷ outer → Unclosed lines number
  unclosed-told number i outer f e u =
      let n = length lines in
      let p : IsTold n = told_by n (omega arith) f in
      let h : AreNested lines n (i ∷ outer) = subst (AreNested lines n) u (are_nested lines n) in
      let front : IsFront (i + 1) (levels_by lines n (i ∷ outer)) = front_of n i outer h in
      record {
        innermost = front.innermost;
        outer = front.outer;
        levels = told_whole p ∙ ap (levels_by lines n) u ∙ front.levels;
        line = front.line ∙ sym e;
        before = fine_told n (omega arith) f;
      }

  fault_same : (fault : ScriptFault) → IsFaultOf lines fault ↔ IsFirstFaultyLine lines fault
  fault_same fault = (said, told)
    where
      said : IsFaultOf lines fault → IsFirstFaultyLine lines fault
      said (inl (i, e, f)) = let found = fault-said i fault.kind f in inl (i, e, found.0, found.1)
      said (inr (e, u)) =
          let found = unclosed-said fault.line u in
          inr (e, fine_said (length lines) (omega arith) u.before, found.0, found.1, found.2, found.3)

      told : IsFirstFaultyLine lines fault → IsFaultOf lines fault
      told (inl (i, e, f, before)) = inl (i, e, fault-told i fault.kind f before)
      told (inr (e, f, i, outer, number, u)) = inr (e, unclosed-told fault.line i outer f number u)

  none_same : NoFault lines ↔ HasNoFaultyLine lines
  none_same = (said, told)
    where
      said : NoFault lines → HasNoFaultyLine lines
      said f = let n = length lines in (
        fine_said n (omega arith) f.fine,
        closed_of n (unmatched lines n) (are_nested lines n) (sym (told_whole (told_of n (omega arith) f.fine))
            ∙ f.closed),
      )

      told : HasNoFaultyLine lines → NoFault lines
      told (f, u) =
          let n = length lines in
          record {
            fine = fine_told n (omega arith) f;
            closed = told_whole (told_by n (omega arith) f) ∙ ap (levels_by lines n) u;
          }

pub levels-tell-unmatched-lines : LevelsTellUnmatchedLines
levels-tell-unmatched-lines lines = (fault_same lines, none_same lines)
