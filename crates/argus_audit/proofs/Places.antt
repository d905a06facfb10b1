-- One more entry, and all of them.
use Rattle.std.proofs.Common.{List, None, Some, [], ap, arith, drop, reverse, subst, suc, sym, take, ℕ, ◌++◌, ◌+◌, ◌∙◌}
use Rattle.std.proofs.{Common.{◌∷◌, ◌≡◌, ◌≤◌}, lemmas.{Bool.Decides.nat_tests, List.{reverse-append, reverse-reverse}}}
use Rattle.std.proofs.lemmas.{List.{take-append-drop, take_all}, Option.{get_or_from_slice_get, none-some}}
use Rattle.std.{proofs.{lemmas.Option.{slice_get_cases, slice_get_within}, Math.Seq.take-suc}, specs.Prelude.slice_get}
use Rattle.argus_audit.specs.Places.{first_entries}
use Rattle.argus_entries.specs.Entry.{PlainEntry}
use Rattle.argus_journal.specs.{Legal.Legal, Opening.Opening}

-- one more entry, which was found
pub one_more : (j : List PlainEntry) (n : ℕ) (e : PlainEntry) → slice_get (reverse j) n ≡ Some e
    → first_entries j (n + 1) ≡ e ∷ first_entries j n
one_more j n e is =
    let next : n + 1 ≡ suc n = omega arith in
    ap (λ k. reverse (take k (reverse j))) next
    ∙ ap reverse (take-suc (reverse j) n e (slice_get_within (reverse j) n e is)
    ∙ ap (λ x. take n (reverse j) ++ x ∷ []) (get_or_from_slice_get (reverse j) n e e is))
    ∙ reverse-append (take n (reverse j)) (e ∷ [])

pub no_more : (j : List PlainEntry) (n : ℕ) → slice_get (reverse j) n ≡ None → first_entries j (n + 1) ≡ first_entries j n
no_more j n none = grind (arith, nat_tests, slice_get_cases, none-some, take_all)

-- the older entries of a legal journal are legal
older_legal : (s : Opening) (newer older : List PlainEntry) → Legal s (newer ++ older) → Legal s older
older_legal s [] older l = l
older_legal s (e ∷ newer) older l = older_legal s newer older l.1

pub first_legal : (s : Opening) (j : List PlainEntry) (n : ℕ) → Legal s j → Legal s (first_entries j n)
first_legal s j n l =
    let parts : j ≡ reverse (drop n (reverse j)) ++ first_entries j n =
    sym (reverse-reverse j) ∙ ap reverse (sym (take-append-drop n (reverse j)))
    ∙ reverse-append (take n (reverse j)) (drop n (reverse j)) in
    older_legal s (reverse (drop n (reverse j))) (first_entries j n) (subst (Legal s) parts l)
