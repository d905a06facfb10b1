-- Full chunks, end to end: how many elements they have, and which stands in a place.
use Rattle.std.proofs.Common.{List, [], ap, arith, get_or, length, length-append, refl, slice_get, suc, zero, ℕ, ◌*◌}
use Rattle.std.proofs.{Common.{◌++◌, ◌+◌, ◌<◌, ◌∙◌, ◌∷◌, ◌≡◌, sym}, lemmas.{Bool.Decides.nat_tests, List.append_assoc}}
use Rattle.std.{proofs.lemmas.List.Elements.{All-head, All-tail}, specs.List.{All, flat_map}}
use Rattle.argus_journal.specs.declared.chunks.TheConstants.{CHUNK}

slice_get-left : {A : Type 0} (xs ys : List A) (i : ℕ) → i < length xs → slice_get (xs ++ ys) i ≡ slice_get xs i
slice_get-left [] ys i lt = absurd (omega arith)
slice_get-left (x ∷ xs) ys zero lt = refl
slice_get-left (x ∷ xs) ys (suc i) lt = slice_get-left xs ys i (omega arith)

slice_get-right : {A : Type 0} (xs ys : List A) (i k : ℕ) → k ≡ length xs + i
    → slice_get (xs ++ ys) k ≡ slice_get ys i
slice_get-right [] ys i k e = ap (slice_get ys) (omega arith)
slice_get-right (x ∷ xs) ys i zero e = absurd (omega arith)
slice_get-right (x ∷ xs) ys i (suc k) e = slice_get-right xs ys i k (omega arith)

module _ {X A : Type 0} (f : X → List A) where
  abbrev IsFull : X → Type 0
  IsFull x = length (f x) ≡ CHUNK

  pub length_of_chunks : (xs : List X) → All IsFull xs → length (flat_map f xs) ≡ length xs * CHUNK
  length_of_chunks [] full = refl
  length_of_chunks (x ∷ xs) full =
      let this = All-head IsFull x xs full in
      let rest = length_of_chunks xs (All-tail IsFull x xs full) in
      let both = length-append (f x) (flat_map f xs) in
      omega arith

  pub place_in_chunk : (xs : List X) (rest : List A) → All IsFull xs → (q r k : ℕ) (d : X) → q < length xs
      → r < CHUNK → q * CHUNK + r ≡ k → slice_get (f (get_or xs q d)) r ≡ slice_get (flat_map f xs ++ rest) k
  place_in_chunk [] rest full q r k d lt low at = absurd (omega arith)
  place_in_chunk (x ∷ xs) rest full zero r k d lt low at =
      grind (arith, nat_tests, All-head, slice_get-left, append_assoc)
  place_in_chunk (x ∷ xs) rest full (suc q) r k d lt low at =
      let this = All-head IsFull x xs full in
      place_in_chunk xs rest (All-tail IsFull x xs full) q r (q * CHUNK + r) d (omega arith) low refl
      ∙ sym (slice_get-right (f x) (flat_map f xs ++ rest) (q * CHUNK + r) k (omega arith))
      ∙ ap (λ all. slice_get all k) (sym (append_assoc (f x) (flat_map f xs) rest))

  pub place_behind_chunks : (xs : List X) (rest : List A) → All IsFull xs → (r k : ℕ) → length xs * CHUNK + r ≡ k
      → slice_get rest r ≡ slice_get (flat_map f xs ++ rest) k
  place_behind_chunks xs rest full r k at = grind (arith, nat_tests, length_of_chunks, slice_get-right)
