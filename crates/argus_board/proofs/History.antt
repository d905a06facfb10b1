-- The steps of the history keep its rule.
use Rattle.std.proofs.Common.{Bool, List, None, [], ap, arith, false, fold, inl, length, length-append, refl, subst}
use Rattle.std.proofs.Common.{suc, sym, true, zero, ℕ, ◌++◌, ◌<◌, ◌==◌, ◌∙◌, ◌∷◌, ◌≡◌, ◌≢◌}
use Rattle.std.proofs.{lemmas.List.{append-nil, get_or-set_same}, lemmas.Bool.Decides.nat_tests}
use mathlib.Core.List.{IsPrefix}
use Rattle.argus_board.proofs.Prefixes.{begins_itself, begins_later}
use lib.ListN.{length-set, set}
use prog.Atomic.{either}
use Rattle.logbook.specs.Pages.{Cell, Moves, Nib, adds, cell, gives, keeps, may_write, no_nib, step}
use Rattle.argus_contents.specs.Effect.{Effect}
use Rattle.argus_board.specs.{declared.page.Page.Page, History.{line, line_state, next_right}}
use Rattle.argus_board.specs.History.{Adds, AreUsed, Grows, IsKept, IsUnused, SeesUnused, after_page, after_page_if}

home_set : (cs : List Cell) (i n k : ℕ) → (cell cs k).1 ≡ true → (cell (set cs i (n, true)) k).1 ≡ true
home_set [] i n k h = h
home_set (c ∷ cs) zero n zero h = refl
home_set (c ∷ cs) zero n (suc k) h = h
home_set (c ∷ cs) (suc i) n zero h = h
home_set (c ∷ cs) (suc i) n (suc k) h = home_set cs i n k h

home_push : (cs : List Cell) (k : ℕ) → (cell cs k).1 ≡ true → (cell (cs ++ (0, false) ∷ []) k).1 ≡ true
home_push [] zero h = h
home_push [] (suc k) h = h
home_push (c ∷ cs) zero h = h
home_push (c ∷ cs) (suc k) h = home_push cs k h

used_on : (cs ds : List Cell) → ((k : ℕ) → (cell cs k).1 ≡ true → (cell ds k).1 ≡ true) → (log : List Page)
    → AreUsed cs log → AreUsed ds log
used_on cs ds f [] h = tt
used_on cs ds f (p ∷ ps) h = (f p.uses h.0, used_on cs ds f ps h.1)

used_push : (cs : List Cell) (log : List Page) (p : Page) → AreUsed cs log → (cell cs p.uses).1 ≡ true
    → AreUsed cs (log ++ p ∷ [])
used_push cs [] p h u = (u, tt)
used_push cs (q ∷ qs) p h u = (h.0, used_push cs qs p h.1 u)

unused : (cs : List Cell) (k : ℕ) → (cell cs k).1 ≡ false → (log : List Page) → AreUsed cs log → IsUnused k log
unused cs k away [] h = tt
unused cs k away (p ∷ ps) h = (
  (λ (e : p.uses ≡ k). absurd (let f : true ≡ false = sym h.0
      ∙ ap (λ z. (cell cs z).1) e ∙ away in cc f)),
  unused cs k away ps h.1,
)

abbrev pub shown : List Page → List Page
shown log = []

abbrev pub moved : List Page → List Page → ℕ → Type 0
moved xs ys n = Unit {0}

-- a right may be made at any time
pub grow_moves : (v : List Page) (ask : Page)
    → Moves IsKept shown moved 0 (v, (no_nib, None)) (λ n. either (n == 0) 0 n)
    (Grows (step 0 0 0 ask) (v, (no_nib, None)))
grow_moves v ask cs log kept pre away =
    let f = either ((cell cs 0).0 == 0) 0 (cell cs 0).0 in
    let ds = set cs 0 (f, true) in
    let on : (k : ℕ) → (cell cs k).1 ≡ true → (cell (ds ++ (0, false) ∷ []) k).1 ≡ true = λ k h. home_push ds k
    (home_set cs 0 f k h) in
    let wide : 0 < length (ds ++ (0, false) ∷ []) = omega (arith, length-append ds ((0, false) ∷ [])) in
    let whole : log ++ [] ≡ log = append-nil log in (
      kept.head.0,
      kept.head.1,
      (
        adds,
        [],
        None,
        tt,
        record {
          head = (wide, on 0 kept.head.1);
          used = subst (AreUsed (ds ++ (0, false) ∷ [])) (sym whole)
              (used_on cs (ds ++ (0, false) ∷ []) on log kept.used);
        },
        inl (refl, refl),
        refl,
      ),
    )

-- whoever holds a right may use it up
pub add_moves : (v : List Page) (p : Nib) (ask : Page) → p.right ≡ may_write
    → Moves IsKept shown moved 0 (v, (p, None)) (λ n. either (n == 0) 0 n) (Adds (step 0 0 0 ask) (v, (p, None)))
add_moves v p ask right cs log kept pre away =
    let f = either ((cell cs 0).0 == 0) 0 (cell cs 0).0 in
    let ds = set cs 0 (f, true) in
    let es = set ds p.key (p.value, true) in
    let page : Page = record { uses = p.key; gives = ask.gives; effects = ask.effects } in
    let on : (k : ℕ) → (cell cs k).1 ≡ true → (cell es k).1 ≡ true = λ k h. home_set ds p.key p.value k
    (home_set cs 0 f k h) in
    let wide : length es ≡ length cs = length-set ds p.key (p.value, true) ∙ length-set cs 0 (f, true) in
    let inside : p.key < length ds = omega (arith, length-set cs 0 (f, true), (away right).0) in
    let here : (cell es p.key).1 ≡ true = ap (λ (c : Cell). c.1) (get_or-set_same ds p.key (p.value, true)
    (0, false) inside) in (
      kept.head.0,
      kept.head.1,
      (
        gives,
        page ∷ [],
        None,
        right,
        record {
          head = (omega (arith, wide, kept.head.0), on 0 kept.head.1);
          used = used_push es log page
              (used_on cs es on log kept.used) here;
        },
        inl (refl, refl),
        (log, refl, pre, unused cs p.key (away right).1 log kept.used),
      ),
    )

-- whoever holds a right sees that no page used it up
pub hold_moves : (v : List Page) (p : Nib) (ask : Page) → p.right ≡ may_write
    → Moves IsKept shown moved 0 (v, (p, None)) (λ n. either (n == 0) 0 n) (SeesUnused (step 0 0 0 ask) (v, (p, None)))
hold_moves v p ask right cs log kept pre away =
    let f = either ((cell cs 0).0 == 0) 0 (cell cs 0).0 in
    let ds = set cs 0 (f, true) in
    let on : (k : ℕ) → (cell cs k).1 ≡ true → (cell ds k).1 ≡ true = λ k h. home_set cs 0 f k h in
    let whole : log ++ [] ≡ log = append-nil log in (
      kept.head.0,
      kept.head.1,
      (
        keeps,
        [],
        None,
        tt,
        record {
          head = (omega (arith, length-set cs 0 (f, true), kept.head.0), on 0 kept.head.1);
          used = subst
              (AreUsed ds) (sym whole) (used_on cs ds on log kept.used);
        },
        inl (refl, refl),
        (refl, subst (IsUnused p.key) (sym whole) (unused cs p.key (away right).1 log kept.used)),
      ),
    )

fold_on : (s : ℕ × List Effect) (xs ys : List Page) → fold after_page s (xs ++ ys) ≡ fold after_page
    (fold after_page s xs) ys
fold_on s [] ys = refl
fold_on s (x ∷ xs) ys = fold_on (after_page s x) xs ys

-- a line only grows
longer_if : (b : Bool) (s : ℕ × List Effect) (p : Page) → IsPrefix s.1 (after_page_if b s p).1
longer_if true s p = (p.effects, refl)
longer_if false s p = begins_itself s.1

longer : (s : ℕ × List Effect) (log : List Page) → IsPrefix s.1 (fold after_page s log).1
longer s [] = begins_itself s.1
longer s (p ∷ ps) =
    begins_later s.1 (after_page s p).1 (fold after_page (after_page s p) ps).1 (longer_if (s.0 == p.uses) s p) (longer
    (after_page s p) ps)

pub line_begins : (r : ℕ) (xs ys : List Page) → IsPrefix xs ys → IsPrefix (line r xs) (line r ys)
line_begins r xs ys p =
    let more = longer (line_state r xs) p.0 in
    (more.0, more.1 ∙ sym (ap (λ (s : ℕ × List Effect). s.1) (fold_on (r, []) xs p.0)) ∙ ap (line r) p.1)

-- and stands while its next right isn't used up
same_if : (b : Bool) (s : ℕ × List Effect) (p : Page) → b ≡ false → after_page_if b s p ≡ s
same_if true s p e = absurd (cc e)
same_if false s p e = refl

unequal : (a b : ℕ) → b ≢ a → (a == b) ≡ false
unequal a b ne = grind (arith, nat_tests)

stands : (s : ℕ × List Effect) (log : List Page) → IsUnused s.0 log → fold after_page s log ≡ s
stands s [] u = refl
stands s (p ∷ ps) u =
    let one : after_page s p ≡ s = same_if (s.0 == p.uses) s p (unequal s.0 p.uses u.0) in
    ap (λ z. fold after_page z ps) one ∙ stands s ps u.1

unused_rest : (k : ℕ) (xs ys : List Page) → IsUnused k (xs ++ ys) → IsUnused k ys
unused_rest k [] ys u = u
unused_rest k (x ∷ xs) ys u = unused_rest k xs ys u.1

pub line_stands : (r k : ℕ) (xs ys : List Page) → k ≡ next_right r xs → IsPrefix xs ys → IsUnused k ys
    → line_state r ys ≡ line_state r xs
line_stands r k xs ys is p u =
    let s = line_state r xs in
    let rest : IsUnused k p.0 = unused_rest k xs p.0 (subst (IsUnused k) (sym p.1) u) in
    ap (line_state r) (sym p.1) ∙ fold_on (r, []) xs p.0 ∙ stands s p.0 (subst (λ z. IsUnused z p.0) is rest)

here_if : (b : Bool) (s : ℕ × List Effect) (p : Page) → b ≡ true → after_page_if b s p ≡ (p.gives, s.1 ++ p.effects)
here_if true s p e = refl
here_if false s p e = absurd (cc e)

equal : (a b : ℕ) → b ≡ a → (a == b) ≡ true
equal a b e = grind (arith, nat_tests)

-- the page that used up the next right
pub line_adds : (r : ℕ) (xs log w : List Page) (p : Page) → p.uses ≡ next_right r xs → w ≡ log ++ p ∷ []
    → IsPrefix xs log
    → IsUnused p.uses log → line_state r w ≡ (p.gives, line r xs ++ p.effects)
line_adds r xs log w p is whole pre u =
    let s = line_state r xs in
    let was : line_state r log ≡ s = line_stands r p.uses xs log is pre u in
    ap (line_state r) whole ∙ fold_on (r, []) log (p ∷ []) ∙ ap (λ z. after_page z p) was
    ∙ here_if (s.0 == p.uses) s p (equal s.0 p.uses is)
