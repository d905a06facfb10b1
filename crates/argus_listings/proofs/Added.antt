-- A text that is made and written piece by piece: what was written, what is pending and what is left
-- to come.
use Rattle.std.proofs.Common.{List, None, Option, Some, [], ap, append_assoc, length, refl, subst, suc, sym, take, ℕ}
use Rattle.std.proofs.{Common.{◌+◌, ◌++◌, zero, ◌∙◌, ◌∷◌, ◌≡◌}, Math.Seq.take-append-add, lemmas.List.append-nil}
use Rattle.std.specs.{Io.KnownBytes.Appends, Prelude.{Err, Ok, OnOk, Result}}
pub use Rattle.argus_core.proofs.AbortingLive.{on_err}
use Rattle.argus_listings.specs.Flushing.{Added, Cut}

appends_none : (c : Option (List ℕ)) → Appends c c []
appends_none None = tt
appends_none (Some x) = sym (append-nil x)

appends_on : (a b c : Option (List ℕ)) (x y : List ℕ) → Appends a b x → Appends b c y → Appends a c (x ++ y)
appends_on None b c x y p q = tt
appends_on (Some k) None c x y p q = absurd p
appends_on (Some k) (Some l) None x y p q = absurd q
appends_on (Some k) (Some l) (Some m) x y p q = q ∙ ap (λ t. t ++ y) p ∙ append_assoc k x y

-- from old and pending on the whole was begun: the rest is left to come
abbrev pub Left : Option (List ℕ) → List ℕ → Option (List ℕ) → List ℕ → List ℕ → List ℕ → Type 0
Left old pending new still whole rest =
    (written : List ℕ) × Appends old new written × (pending ++ whole ≡ written ++ (still ++ rest))

-- a text that was appended to what is pending
pub text_added : (c : Option (List ℕ)) (t u x : List ℕ) → u ≡ t ++ x → Added c t c u x
text_added c t u x e = ([], appends_none c, sym e)

pub left_starts : (c : Option (List ℕ)) (t whole : List ℕ) → Left c t c t whole whole
left_starts c t whole = ([], appends_none c, refl)

pub left_added : (a : Option (List ℕ)) (s : List ℕ) (c : Option (List ℕ)) (t : List ℕ) (d : Option (List ℕ))
    (u whole x rest : List ℕ) → Left a s c t whole (x ++ rest) → Added c t d u x → Left a s d u whole rest
left_added a s c t d u whole x rest (w, p, e) (v, q, f) = (
  w ++ v,
  appends_on a c d w v p q,
  e ∙ ap (λ k. w ++ k) (sym (append_assoc t x rest) ∙ ap (λ k. k ++ rest) f ∙ append_assoc v u rest)
      ∙ sym (append_assoc w v (u ++ rest)),
)

pub left_ends : (a : Option (List ℕ)) (s : List ℕ) (c : Option (List ℕ)) (t whole : List ℕ)
    → Left a s c t whole [] → Added a s c t whole
left_ends a s c t whole (w, p, e) = (w, p, e ∙ ap (λ k. w ++ k) (append-nil t))

-- a front of a text is a front of that text and more
front : (n : ℕ) (xs ys : List ℕ) → (m : ℕ) × (take n xs ≡ take m (xs ++ ys))
front zero xs ys = (0, refl)
front (suc n) [] ys = (0, refl)
front (suc n) (x ∷ xs) ys = let more = front n xs ys in (suc more.0, ap (λ k. x ∷ k) more.1)

pub left_cut : (a : Option (List ℕ)) (s : List ℕ) (c : Option (List ℕ)) (t : List ℕ) (d : Option (List ℕ))
    (whole x rest : List ℕ) → Left a s c t whole (x ++ rest) → Cut c t d x → Cut a s d whole
left_cut a s c t d whole x rest (w, p, e) (n, q) =
    let more = front n (t ++ x) rest in
    let same : w ++ take n (t ++ x) ≡ take (length w + more.0) (s ++ whole) =
    ap (λ k. w ++ k) (more.1 ∙ ap (take more.0) (append_assoc t x rest))
    ∙ sym (take-append-add w (t ++ (x ++ rest)) more.0) ∙ ap (take (length w + more.0)) (sym e) in
    (length w + more.0, subst (Appends a d) same (appends_on a c d w (take n (t ++ x)) p q))

pub left_stops : (a : Option (List ℕ)) (s : List ℕ) (c : Option (List ℕ)) (t whole rest : List ℕ)
    → Left a s c t whole rest → Cut a s c whole
left_stops a s c t whole rest left = left_cut a s c t c whole [] rest left (0, appends_none c)

left_after : (a : Option (List ℕ)) (s : List ℕ) (c : Option (List ℕ)) (t x y : List ℕ) → Added a s c t x
    → Left a s c t (x ++ y) y
left_after a s c t x y (w, p, e) = (w, p, sym (append_assoc s x y) ∙ ap (λ k. k ++ y) e ∙ append_assoc w t y)

-- two texts, one after the other
pub added_then : (a : Option (List ℕ)) (s : List ℕ) (c : Option (List ℕ)) (t : List ℕ) (d : Option (List ℕ))
    (u x y : List ℕ) → Added a s c t x → Added c t d u y → Added a s d u (x ++ y)
added_then a s c t d u x y (w, p, e) (v, q, f) = (
  w ++ v,
  appends_on a c d w v p q,
  sym (append_assoc s x y) ∙ ap (λ k. k ++ y) e ∙ append_assoc w t y ∙ ap (λ k. w ++ k) f ∙ sym (append_assoc w v u),
)

pub cut_then : (a : Option (List ℕ)) (s : List ℕ) (c : Option (List ℕ)) (t : List ℕ) (d : Option (List ℕ))
    (x y : List ℕ) → Added a s c t x → Cut c t d y → Cut a s d (x ++ y)
cut_then a s c t d x y added cut =
    left_cut a s c t d (x ++ y) y []
    (subst (Left a s c t (x ++ y)) (sym (append-nil y)) (left_after a s c t x y added)) cut

-- what cuts a text cuts that text and more
pub cut_before : (a : Option (List ℕ)) (s : List ℕ) (d : Option (List ℕ)) (x y : List ℕ) → Cut a s d x
    → Cut a s d (x ++ y)
cut_before a s d x y cut = left_cut a s a s d (x ++ y) x y (left_starts a s (x ++ y)) cut

-- nothing more was written after the first of two texts
pub stops_then : (a : Option (List ℕ)) (s : List ℕ) (c : Option (List ℕ)) (t x y : List ℕ) → Added a s c t x
    → Cut a s c (x ++ y)
stops_then a s c t x y added = left_stops a s c t (x ++ y) y (left_after a s c t x y added)

-- a front is written where nothing was pending
pub front_written : (a : Option (List ℕ)) (s : List ℕ) (c : Option (List ℕ)) (x : List ℕ) → s ≡ [] → Cut a s c x
    → (n : ℕ) × Appends a c (take n x)
front_written a s c x e (n, p) = (n, subst (λ k. Appends a c (take n (k ++ x))) e p)

-- what is still pending is written, too
pub poured : {A B : Type 0} (r : Result A B) (a : Option (List ℕ)) (s : List ℕ) (c : Option (List ℕ)) (t : List ℕ)
    (d : Option (List ℕ)) (u x : List ℕ) → s ≡ [] → Added a s c t x → OnOk r (Added c t d u []) → OnOk r (u ≡ [])
    → OnOk r (Appends a d x)
poured (Ok k) a s c t d u x e added rest none =
    let (w, p, f) = added_then a s c t d u x [] added rest in
    let same : w ≡ x = sym (append-nil w) ∙ ap (λ k. w ++ k) (sym none) ∙ sym f ∙ ap (λ k. k ++ (x ++ [])) e
    ∙ append-nil x in
    subst (Appends a d) same p
poured (Err k) a s c t d u x e added rest none = tt

pub front_poured : (a : Option (List ℕ)) (s : List ℕ) (c : Option (List ℕ)) (t : List ℕ) (d : Option (List ℕ))
    (x : List ℕ) → s ≡ [] → Added a s c t x → Cut c t d [] → (n : ℕ) × Appends a d (take n x)
front_poured a s c t d x e added cut =
    front_written a s d x e (subst (Cut a s d) (append-nil x) (cut_then a s c t d x [] added cut))
