-- What is behind the front after a part of the list has moved.
use Rattle.std.proofs.Common.{◌≡◌, ℕ, ◌+◌, ◌-◌, ◌≤◌, List, ◌∷◌, ◌++◌, length, take, drop, set, sym, ◌∙◌, ap, arith}
use Rattle.std.proofs.{Common.zero, lemmas.List.{drop_more, drop-append-le, drop-take, append_assoc, drop-drop}}
use Rattle.std.proofs.lemmas.List.{drop_at, drop-set-add, set-append_right, length-take-le, length-drop}
use Rattle.std.proofs.{lemmas.Bool.Decides.nat_tests, Math.Seq.paste}
use Rattle.argus_actions.specs.declared.action_id.ActionId.{ActionId}

-- those behind a place, seen from the front
behind : (xs : List ActionId) (front place : ℕ) → drop (front + place) xs ≡ drop place (drop front xs)
behind xs front place = sym (drop-drop place front xs)

-- the first ones move down by one, and the action is put behind them
pub down_by_one : (xs : List ActionId) (k place : ℕ) (a : ActionId) → (k + 1) + place ≤ length xs
    → drop k (set (paste xs k (drop (k + 1) xs) place) (k + place) a)
    ≡ take place (drop (k + 1) xs) ++ a ∷ drop place (drop (k + 1) xs)
down_by_one xs k place a le =
    let ys : List ActionId = drop (k + 1) xs in
    let rest : List ActionId = drop (k + place) xs in
    let none : ActionId = record { 0 = 0 } in
    let fits : length (take place ys) ≡ place = length-take-le place ys (omega (arith, length-drop (k + 1) xs)) in
    let same : k + place + 1 ≡ (k + 1) + place = omega arith in
    let first : place - place ≡ zero = omega arith in
    drop-set-add k (paste xs k ys place) place a
    ∙ (ap (λ (zs : List ActionId). set (drop k zs) place a) (append_assoc (take k xs) (take place ys) rest)
    ∙ (ap (λ (zs : List ActionId). set zs place a) (drop_at (take k xs) (take place ys ++ rest) k
    (length-take-le k xs (omega arith)))
    ∙ (set-append_right (take place ys) rest place place a fits (omega arith)
    ∙ ap (λ (zs : List ActionId). take place ys ++ zs)
    (ap (λ (n : ℕ). set rest n a) first
    ∙ (ap (λ (zs : List ActionId). set zs zero a) (drop_more xs (k + place) none (omega arith))
    ∙ ap (λ (zs : List ActionId). a ∷ zs) (ap (λ (n : ℕ). drop n xs) same ∙ behind xs (k + 1) place))))))

-- the action is put into a place, and those behind it move
pub put_between : (xs : List ActionId) (front place : ℕ) (a : ActionId) → front + place ≤ length xs
    → drop front (take (front + place) xs ++ a ∷ drop (front + place) xs)
    ≡ take place (drop front xs) ++ a ∷ drop place (drop front xs)
put_between xs front place a le = grind (arith, nat_tests, length-take-le, drop-append-le, drop-take, behind)

-- what is in a place is taken out, and those behind it move
pub taken_between : (xs : List ActionId) (front place : ℕ) → front + place ≤ length xs
    → drop front (take (front + place) xs ++ drop (front + place + 1) xs)
    ≡ take place (drop front xs) ++ drop (place + 1) (drop front xs)
taken_between xs front place le = grind (arith, nat_tests, length-take-le, drop-append-le, drop-take, behind)
