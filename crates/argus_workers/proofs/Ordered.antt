-- The order of calls, one more at a time.
use Rattle.std.proofs.Common.{All, List, [], get_or, length, subst, sym, take, ℕ, ◌+◌, ◌++◌, ◌<◌, ◌≤◌, ◌∷◌, ◌≡◌}
use Rattle.std.proofs.{lemmas.List.{take_all, take_more}, lemmas.List.Elements.{All-push, All-weaker}}
use Rattle.std.proofs.lemmas.List.Quantifiers.{all_pairs_push}
use Rattle.argus_workers.specs.{Order.{MayComeNext, IsBelowBounds, InOrder, InTurn}, declared.ordering.Order.Order}
use Rattle.argus_workers.specs.declared.made_call.MadeCall.{MadeCall}

-- the first i calls are in order, and the order holds of each
abbrev pub UpTo : Order → List MadeCall → ℕ → Type 0
UpTo o calls i = All (IsBelowBounds o) (take i calls) × InOrder (take i calls)

-- one call more
pub up_to_more : (o next : Order) (calls : List MadeCall) (i : ℕ) (d : MadeCall) → i < length calls
    → MayComeNext o (get_or calls i d) next → UpTo o calls i → UpTo next calls (i + 1)
up_to_more o next calls i d l f (held, order) =
    let front : List MadeCall = take i calls in
    let call : MadeCall = get_or calls i d in
    let e : take (i + 1) calls ≡ front ++ call ∷ [] = take_more calls i d l in (
      subst (All (IsBelowBounds next)) (sym e)
          (All-push (IsBelowBounds next) front call (All-weaker (IsBelowBounds o) (IsBelowBounds next) (λ c h.
          (f.0 c h).0) front held) f.1),
      subst InOrder (sym e) (all_pairs_push InTurn front call order (λ k x b. (f.0 (get_or front k x) (held k x b)).1)),
    )

-- all calls
pub up_to_all : (o : Order) (calls : List MadeCall) (i : ℕ) → length calls ≤ i → UpTo o calls i → InOrder calls
up_to_all o calls i l u = subst InOrder (take_all i calls l) u.1
