-- Where reading stops that may go on in either of two ways: where the later of them stops.
use Rattle.std.proofs.Common.{◌≡◌, ℕ, zero, suc, ◌≤◌, ◌⊎◌, inl, inr, List, [], ◌∷◌, ◌++◌, length, sym, ap, subst, arith}
use Rattle.std.proofs.Common.{min, length-append}
use Rattle.argus_texts.specs.{declared.stop.Stop.Stop, Language.{Language, FormOf, NoWay, OnLeft, Reads, Starts, Stops}}
use Rattle.argus_texts.proofs.Lists.{tail_of, head_of}
use Rattle.argus_reading.specs.{Combined.Either, Farther.farther}

-- front begins no text of P that goes on as back does
abbrev Cannot : (List ℕ → Type 0) → List ℕ → List ℕ → Type 0
Cannot P front [] = P front → ⊥
Cannot P front (c ∷ back) = (more : List ℕ) → P (front ++ c ∷ more) → ⊥

cannot_from : (L : Language) (front back : List ℕ) → NoWay L front back → Cannot (Starts L) front back
cannot_from p front q n = grind arith

shift : (P : List ℕ → Type 0) (c : ℕ) (front back : List ℕ) → Cannot (λ x. P (c ∷ x)) front back
    → Cannot P (c ∷ front) back
shift p c front q n = grind arith

unshift : (P : List ℕ → Type 0) (c : ℕ) (front back : List ℕ) → Cannot P (c ∷ front) back
    → Cannot (λ x. P (c ∷ x)) front back
unshift p c front q n = grind arith

-- what no front begins no longer front does
longer : (P : List ℕ → Type 0) (f b g d : List ℕ) → f ++ b ≡ g ++ d → length b ≤ length d → Cannot P g d → Cannot P f b
longer P [] b [] d e l n = subst (Cannot P []) (sym e) n
longer P [] b (h ∷ g) d e l n = absurd (omega (arith, ap length e, length-append g d))
longer P (c ∷ f) [] [] d e l n = let m : Cannot P [] (c ∷ (f ++ [])) = subst (Cannot P []) (sym e) n in m f
longer P (c ∷ f) (x ∷ b) [] d e l n =
    let m : Cannot P [] (c ∷ (f ++ x ∷ b)) = subst (Cannot P []) (sym e) n in λ more p. m (f ++ x ∷ more) p
longer P (c ∷ f) b (h ∷ g) d e l n =
    let m : Cannot P (c ∷ g) d = subst (λ z. Cannot P (z ∷ g) d) (sym (head_of e)) n in
    shift P c f b (longer (λ x. P (c ∷ x)) f b g d (tail_of e) l (unshift P c g d m))

which : (L M : Language) (x rest : List ℕ) (t : L.Thing ⊎ M.Thing) → Reads (Either L M) x t rest
    → Starts L x ⊎ Starts M x
which p q x rest s r = grind arith

neither_starts : (L M : Language) (x : List ℕ) → (Starts L x → ⊥) → (Starts M x → ⊥) → Starts (Either L M) x → ⊥
neither_starts L M x p q s = elim (which L M x s.rest s.thing s.reads) as (λ _. ⊥) [ inl a ↦ p a | inr b ↦ q b ]

neither : (L M : Language) (front back : List ℕ) → Cannot (Starts L) front back → Cannot (Starts M) front back
    → NoWay (Either L M) front back
neither L M front [] p q = neither_starts L M front p q
neither L M front (c ∷ back) p q = λ more. neither_starts L M (front ++ c ∷ more) (p more) (q more)

-- where another way stopped earlier
beyond : (L : Language) (text front back : List ℕ) (left : ℕ) → Stops L text left → text ≡ front ++ back
    → length back ≤ left → Cannot (Starts L) front back
beyond L text front back left s e l = grind (arith, longer, cannot_from)

left_way : (L M : Language) (u : List ℕ) → FormOf L u → FormOf (Either L M) u
left_way L M u f = record { thing = inl f.thing; good = f.good; is = f.is }

right_way : (L M : Language) (u : List ℕ) → FormOf M u → FormOf (Either L M) u
right_way L M u f = record { thing = inr f.thing; good = f.good; is = f.is }

left_later : (L M : Language) (text : List ℕ) (a b : ℕ) → a ≤ b → Stops L text a → Stops M text b
    → Stops (Either L M) text a
left_later L M text a b l s t = record {
  front = s.front;
  back = s.back;
  whole = s.whole;
  count = s.count;
  more = s.more;
  way = left_way L M (s.front ++ s.more) s.way;
  no_way = neither L M s.front s.back (cannot_from L s.front s.back s.no_way)
      (beyond M text s.front s.back b t s.whole (omega (arith, s.count)));
}

right_later : (L M : Language) (text : List ℕ) (a b : ℕ) → b ≤ a → Stops L text a → Stops M text b
    → Stops (Either L M) text b
right_later L M text a b l s t = record {
  front = t.front;
  back = t.back;
  whole = t.whole;
  count = t.count;
  more = t.more;
  way = right_way L M (t.front ++ t.more) t.way;
  no_way = neither L M t.front t.back (beyond L text t.front t.back a s t.whole (omega (arith, t.count)))
      (cannot_from M t.front t.back t.no_way);
}

order : (a b : ℕ) → (a ≤ b) ⊎ (b ≤ a)
order zero b = inl (omega arith)
order (suc a) zero = inr (omega arith)
order (suc a) (suc b) = grind (arith, order a b)

pub both : (L M : Language) (text : List ℕ) (a b : ℕ) → Stops L text a → Stops M text b
    → Stops (Either L M) text (min a b)
both L M text a b s t =
    elim (order a b) as (λ _. Stops (Either L M) text (min a b)) [
      | inl h ↦ let e : a ≡ min a b = omega arith in subst (Stops (Either L M) text) e (left_later L M text a b h s t)
      | inr h ↦ let e : b ≡ min a b = omega arith in subst (Stops (Either L M) text) e (right_later L M text a b h s t)
    ]

-- reading stops at the later of two stops
pub later : (L M : Language) (text : List ℕ) (s t : Stop) → OnLeft s (Stops L text) → OnLeft t (Stops M text)
    → OnLeft (farther s t) (Stops (Either L M) text)
later r s text t u p q = grind (arith, both)

-- the same of what `farther` returned
pub latter : (L M : Language) (text : List ℕ) (s t r : Stop) → OnLeft s (Stops L text) → OnLeft t (Stops M text)
    → r ≡ farther s t → OnLeft r (Stops (Either L M) text)
latter L M text s t r p q e = subst (λ x. OnLeft x (Stops (Either L M) text)) (sym e) (later L M text s t p q)
