-- Changes leave the contents that their effects leave.
use Rattle.std.proofs.Common.{List, Option, [], ap, append_assoc, arith, fold, length, length-append, refl, sym, ◌++◌}
use Rattle.std.proofs.{Common.{◌∙◌, ◌∷◌, ◌≡◌, ◌≢◌}, lemmas.List.append-nil, lemmas.List.Sums.fold_push}
use Rattle.std.specs.Prelude.{Err, MatchResult, Ok, OnErr, Result}
use Rattle.argus_contents.specs.{Content.PlainContent, Effect.{Effect, plain_effect}}
use Rattle.argus_board.specs.{Effects.{contents_after, overwritten}, Published.{absorbed, effects_in}}
use Rattle.argus_board.specs.declared.board_change.BoardChange.{BoardChange}
use Rattle.argus_board.specs.declared.board_change.BoardChange.TheVariants.{Leaves, Marks}
use Rattle.argus_board.specs.declared.history_prefix.HistoryPrefix.{HistoryPrefix}

abbrev Contents : Type 0
Contents = List (Option PlainContent)

contents_left : (xs : Contents) (f : HistoryPrefix) (ops : List BoardChange)
    → (fold absorbed (xs, f) ops).0 ≡ contents_after xs (effects_in ops)
contents_left xs f [] = refl
contents_left xs f (Leaves e ∷ ops) = contents_left (overwritten xs (plain_effect e.items)) f ops
contents_left xs f (Marks g ∷ ops) = contents_left xs g ops

left_on : (first : Contents) (l m : List Effect) → contents_after (contents_after first l) m ≡ contents_after first (l
    ++ m)
left_on first [] m = refl
left_on first (e ∷ l) m = left_on (overwritten first e) l m

-- a mark after changes leaves what all effects leave, with its front
pub mark_leaves : (first xs : Contents) (l m : List Effect) (f g : HistoryPrefix) (ops : List BoardChange) → xs
    ≡ contents_after first l
    → l ++ effects_in ops ≡ m → fold absorbed (xs, f) (ops ++ Marks g ∷ []) ≡ (contents_after first m, g)
mark_leaves first xs l m f g ops is whole =
    fold_push absorbed (xs, f) ops (Marks g)
    ∙ ap (λ z. (z, g))
    (contents_left xs f ops ∙ ap (λ z. contents_after z (effects_in ops)) is ∙ left_on first l (effects_in ops)
    ∙ ap (contents_after first) whole)

pub effects_on : (ops more : List BoardChange) → effects_in (ops ++ more) ≡ effects_in ops ++ effects_in more
effects_on [] more = refl
effects_on (Leaves e ∷ ops) more = ap (λ z. plain_effect e.items ∷ z) (effects_on ops more)
effects_on (Marks f ∷ ops) more = effects_on ops more

pub mark_adds_none : (ops : List BoardChange) (f : HistoryPrefix) → effects_in (ops ++ Marks f ∷ []) ≡ effects_in ops
mark_adds_none ops f = effects_on ops (Marks f ∷ []) ∙ append-nil (effects_in ops)

-- a change that leaves one effect
pub leaf_whole : (l m n : List Effect) (ops : List BoardChange) (c : BoardChange) (e : Effect) → l ++ effects_in ops ≡ m
    → n ≡ m ++ e ∷ [] → effects_in (c ∷ []) ≡ e ∷ [] → l ++ effects_in (ops ++ c ∷ []) ≡ n
leaf_whole l m n ops c e whole more is =
    ap (λ z. l ++ z) (effects_on ops (c ∷ []) ∙ ap (λ z. effects_in ops ++ z) is)
    ∙ sym (append_assoc l (effects_in ops) (e ∷ [])) ∙ ap (λ z. z ++ e ∷ []) whole ∙ sym more

pub leaf_some : (ops : List BoardChange) (c : BoardChange) (e : Effect) → effects_in (c ∷ []) ≡ e ∷ []
    → effects_in (ops ++ c ∷ []) ≢ []
leaf_some ops c e is none =
    let n : length (effects_in ops ++ e ∷ []) ≡ 0 =
    ap length (sym (effects_on ops (c ∷ []) ∙ ap (λ z. effects_in ops ++ z) is) ∙ none) in
    omega (arith, n, length-append (effects_in ops) (e ∷ []))

module _ {A B T : Type 0} where
  pub one_of : {P : A → Type 0} {Q : B → Type 0} (r : Result A B) → MatchResult r P Q → ((a : A) → P a → T)
      → ((b : B) → Q b → T) → T
  one_of (Ok a) p f g = f a p
  one_of (Err b) q f g = g b q

  pub on_err : (P : A → Type 0) (Q : B → Type 0) (r : Result A B) → MatchResult r P Q → ((b : B) → Q b → T) → OnErr r T
  on_err P Q (Ok a) p g = tt
  on_err P Q (Err b) q g = g b q
