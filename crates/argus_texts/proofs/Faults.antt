-- From where reading stops to the fault of the whole text.
use Rattle.std.proofs.Common.{◌≡◌, ℕ, zero, suc, ◌<◌, ◌≤◌, ◌-◌, List, [], ◌∷◌, ◌++◌, length, take, refl, sym, ap, ◌∙◌}
use Rattle.std.proofs.Common.{subst, append-nil, append_assoc, length-append, arith}
use Rattle.argus_texts.specs.{Fault.{Begins, IsFault}, Language.{Language, FormOf, Reads, Starts, NoWay, Stops}}
use Rattle.argus_texts.proofs.Stops.{Clear, starts_with}

-- no accepted text goes on as back does
abbrev NoForm : (List ℕ → Type 0) → List ℕ → List ℕ → Type 0
NoForm A front [] = A front → ⊥
NoForm A front (c ∷ back) = (more : List ℕ) → A (front ++ c ∷ more) → ⊥

pub take_front : (front back : List ℕ) → take (length front) (front ++ back) ≡ front
take_front [] back = refl
take_front (c ∷ front) back = ap (λ x. c ∷ x) (take_front front back)

-- a longer prefix has the next byte too
take_more : (front back : List ℕ) (c n : ℕ) → length front < n
    → (more : List ℕ) × (take n (front ++ c ∷ back) ≡ front ++ c ∷ more)
take_more [] back c zero h = absurd (omega arith)
take_more [] back c (suc n) h = (take n back, refl)
take_more (d ∷ front) back c zero h = absurd (omega arith)
take_more (d ∷ front) back c (suc n) h = let r = take_more front back c n (omega arith) in (r.0, ap (λ x. d ∷ x) r.1)

fault_refused : (A : List ℕ → Type 0) (front back : List ℕ) → NoForm A front back → A (front ++ back) → ⊥
fault_refused p front q h f = grind (arith, append-nil)

fault_longest : (A : List ℕ → Type 0) (front back : List ℕ) → NoForm A front back → (n : ℕ) → length front < n
    → n ≤ length (front ++ back) → Begins A (take n (front ++ back)) → ⊥
fault_longest A front [] h n l u b = omega (arith, length-append front [])
fault_longest A front (c ∷ back) h n l u b =
    let r = take_more front back c n l in
    let f : A ((front ++ c ∷ r.0) ++ b.0) = subst (λ x. A (x ++ b.0)) r.1 b.1 in
    h (r.0 ++ b.0) (subst A (append_assoc front (c ∷ r.0) b.0) f)

fault_at : (A : List ℕ → Type 0) (front back : List ℕ) → Begins A front → NoForm A front back
    → IsFault A (front ++ back) (length front)
fault_at A front back b h = record {
  refused = fault_refused A front back h;
  within = omega (arith, length-append front back);
  begins = subst (Begins A) (sym (take_front front back)) b;
  longest = fault_longest A front back h;
}

left_over : (front back : List ℕ) → length (front ++ back) - length back ≡ length front
left_over front back = omega (arith, length-append front back)

fault_from : (A : List ℕ → Type 0) (text front back : List ℕ) → text ≡ front ++ back → Begins A front
    → NoForm A front back → IsFault A text (length text - length back)
fault_from A text front back e b h = subst (λ x. IsFault A x (length x - length back)) (sym e)
    (subst (IsFault A (front ++ back)) (sym (left_over front back)) (fault_at A front back b h))

-- the forms of L are what is accepted
pub record Accepts (L : Language) (A : List ℕ → Type 0) : Type 0 where
  pub from : (u : List ℕ) → FormOf L u → A u
  pub to : (u : List ℕ) → A u → FormOf L u

starts_form : (L : Language) → Clear L → (u : List ℕ) → FormOf L u → Starts L u
starts_form L k u f = starts_with L f.thing u [] f.good (k.nil f.thing) (f.is ∙ sym (append-nil (L.form f.thing)))

no_form_from : (L : Language) (A : List ℕ → Type 0) → Clear L → Accepts L A → (front back : List ℕ) → NoWay L front back
    → NoForm A front back
no_form_from L A k a front [] h = λ f. h (starts_form L k front (a.to front f))
no_form_from L A k a front (c ∷ back) h =
    λ more f. h more (starts_form L k (front ++ c ∷ more) (a.to (front ++ c ∷ more) f))

stops_fault : (L : Language) (A : List ℕ → Type 0) → Clear L → Accepts L A → (text : List ℕ) (left : ℕ)
    → Stops L text left → IsFault A text (length text - left)
stops_fault L A k a text left s = subst (λ n. IsFault A text (length text - n)) s.count
    (fault_from A text s.front s.back s.whole (s.more, a.from (s.front ++ s.more) s.way)
    (no_form_from L A k a s.front s.back s.no_way))

stops_within : (L : Language) (text : List ℕ) (left : ℕ) → Stops L text left → left ≤ length text
stops_within L text left s = omega (arith, s.count, ap length s.whole, length-append s.front s.back)

-- reading stopped
pub stopped : (L : Language) (A : List ℕ → Type 0) → Clear L → Accepts L A → (text : List ℕ) (left : ℕ)
    → Stops L text left → (left ≤ length text) × IsFault A text (length text - left)
stopped L A k a text left s = (stops_within L text left s, stops_fault L A k a text left s)

after_way : (L : Language) (A : List ℕ → Type 0) → Clear L → Accepts L A → (d : L.Thing) (c : ℕ) (rest : List ℕ)
    → L.Good d → L.Ends d (c ∷ rest) → (more : List ℕ) → A (L.form d ++ c ∷ more) → ⊥
after_way L A k a d c rest g e more h =
    let f = a.to (L.form d ++ c ∷ more) h in
    let r = k.one d f.thing (c ∷ more) [] g f.good (k.first d c rest more e) (k.nil f.thing)
    (f.is ∙ sym (append-nil (L.form f.thing))) in
    let x : c ∷ more ≡ [] = r.1 in cc

after_fault : (L : Language) (A : List ℕ → Type 0) → Clear L → Accepts L A → (d : L.Thing) (text rest : List ℕ)
    → Reads L text d rest → 0 < length rest → IsFault A text (length text - length rest)
after_fault L A k a d text [] r h = absurd (omega arith)
after_fault L A k a d text (c ∷ rest) r h = fault_from A text (L.form d) (c ∷ rest) r.is
    ([], a.from (L.form d ++ []) (record { thing = d; good = r.good; is = append-nil (L.form d) }))
    (after_way L A k a d c rest r.good r.ends)

-- a form was read, and bytes come behind it
pub left_behind : (L : Language) (A : List ℕ → Type 0) → Clear L → Accepts L A → (d : L.Thing) (text rest : List ℕ)
    → Reads L text d rest → 0 < length rest → (length rest ≤ length text) × IsFault A text (length text - length rest)
left_behind L A k a d text rest r h =
    (omega (arith, ap length r.is, length-append (L.form d) rest), after_fault L A k a d text rest r h)
