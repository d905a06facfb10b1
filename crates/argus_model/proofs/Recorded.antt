-- Each access of the serial order is an event of the history.
use Rattle.std.proofs.Common.{List, [], inl, inr, refl, subst, sym, ℕ, ⊎_elim, ◌++◌, ◌∷◌, ◌≡◌, arith}
use Rattle.std.proofs.lemmas.Bool.Decides.{nat_tests}
use Rattle.std.specs.Prelude.{◌⊎◌}
use Rattle.argus_model.specs.{Ancestors.lineage, Work.serial_order_to}
use Rattle.argus_model.specs.{Event.{Aborted, Accessed, Began, Committed}, History.{History, Opened, ◌▹◌}}
use Rattle.argus_model.specs.Work.{work, Access, IsOnRecord, all_of, committed_topactions, serial_order}

-- x is one of these
abbrev IsOneOf : {X : Type 0} → List X → X → Type 0
IsOneOf [] x = ⊥
IsOneOf (y ∷ ys) x = (y ≡ x) ⊎ IsOneOf ys x

one_of-append : {X : Type 0} (xs ys : List X) (x : X) → IsOneOf (xs ++ ys) x → IsOneOf xs x ⊎ IsOneOf ys x
one_of-append [] ys x m = inr m
one_of-append (y ∷ xs) ys x m =
    ⊎_elim (λ e. inl (inl e)) (λ k. ⊎_elim (λ q. inl (inr q)) (λ q. inr q) (one_of-append xs ys x k)) m

one_there : {X : Type 0} (later : List X) (x : X) (earlier : List X) → IsOneOf (later ++ x ∷ earlier) x
one_there [] x earlier = inl refl
one_there (y ∷ later) x earlier = inr (one_there later x earlier)

module _ {V : Type 0} where
  work_on_record : (h : History V) (a : ℕ) (e : Access V) → IsOneOf (work h a) e → IsOnRecord h e
  work_on_record (Opened n) a e m = m
  work_on_record (Committed s ▹ h) a e m =
      grind (arith, nat_tests, work_on_record h s e, work_on_record h a e, one_of-append)
  work_on_record (Accessed d o v ▹ h) a e m = grind (arith, nat_tests, work_on_record h a e)
  work_on_record (_ ▹ h) a e m = work_on_record h a e m

  all_on_record : (h : History V) (xs : List ℕ) (e : Access V) → IsOneOf (all_of (work h) xs) e → IsOnRecord h e
  all_on_record h [] e m = absurd m
  all_on_record h (x ∷ xs) e m = grind (arith, nat_tests, work_on_record, all_on_record h xs e, one_of-append)

  -- each access of the serial order is on record
  pub serial_recorded : (h : History V) (later : List (Access V)) (e : Access V) (earlier : List (Access V))
      → serial_order h ≡ later ++ e ∷ earlier → IsOnRecord h e
  serial_recorded h later e earlier q =
      all_on_record h (committed_topactions h) e (subst (λ es. IsOneOf es e) (sym q) (one_there later e earlier))

  -- each access of the serial order up to an action is on record
  pub serial_to_recorded : (h : History V) (a : ℕ) (later : List (Access V)) (e : Access V) (earlier : List (Access V))
      → serial_order_to h a ≡ later ++ e ∷ earlier → IsOnRecord h e
  serial_to_recorded h a later e earlier q =
      all_on_record h (lineage h a) e (subst (λ es. IsOneOf es e) (sym q) (one_there later e earlier))
