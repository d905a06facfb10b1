-- The longest prefix of an opening that is sound.
use Rattle.std.proofs.lemmas.{Bool.cases_lt, List.{get_or-map, get_or-take, length-map, Folds.list_all_at}}
use Rattle.std.proofs.Common.{◌≡◌, ℕ, suc, zero, ◌<◌, ◌≤◌, ◌&&◌, Bool, true, false, cond, List, [], ◌∷◌, length, Option}
use Rattle.std.proofs.Common.{Some, take, get_or, refl, sym, ap, ◌∙◌, subst, arith, inl, inr, length-take}
use Rattle.std.proofs.Math.Seq.{take-length}
use Rattle.std.specs.List.{list_all}
use Rattle.argus_contents.specs.{Content.PlainContent, Shape.PlainShape}
use Rattle.argus_journal.specs.Opening.{Opening, fits_shape, is_sound, opening_at}
use Rattle.argus_journal.proofs.Fitting.{fits_more}
use Rattle.argus_resume.specs.{Stage.{object_read, objects_read}, declared.opened_object.OpenedObject.OpenedObject}
use Rattle.argus_resume.specs.SoundFront.{opening_front, sound_count}

-- the object fits with so many objects
abbrev pub fits_with : ℕ → PlainShape × Option PlainContent → Bool
fits_with n object = fits_shape (Some object.0) n object.1

all_from : {A : Type 0} (p : A → Bool) (xs : List A)
    → ((k : ℕ) (d : A) → k < length xs → p (get_or xs k d) ≡ true) → list_all p xs ≡ true
all_from p [] h = refl
all_from p (x ∷ xs) h =
    ap (λ b. b && list_all p xs) (h 0 x (omega arith)) ∙ all_from p xs (λ k d l. h (suc k) d (omega arith))

length_front : {A : Type 0} (m : ℕ) (xs : List A) → m ≤ length xs → length (take m xs) ≡ m
length_front m xs h = omega (arith, length-take m xs)

front_count : (s : Opening) (m : ℕ) (b : Bool) → m ≤ length s.objects → list_all (fits_with m) (take m s.objects) ≡ b
    → is_sound (opening_front s m) ≡ b
front_count s m b h e = ap (λ n. list_all (fits_with n) (take m s.objects)) (length_front m s.objects h) ∙ e

-- each of the first objects fits with as many as they are
pub front_sound : (s : Opening) (m : ℕ) → m ≤ length s.objects
    → ((k : ℕ) (d : PlainShape × Option PlainContent) → k < m → fits_with m (get_or s.objects k d) ≡ true)
    → is_sound (opening_front s m) ≡ true
front_sound s m h f = grind (arith, front_count, all_from, length_front, get_or-take)

fails_less : (object : PlainShape × Option PlainContent) (m n : ℕ) → m ≤ n → fits_with n object ≡ false
    → fits_with m object ≡ false
fails_less object m n l e = grind (arith, fits_more)

-- one of the first objects doesn't fit, so no front with it is sound
pub front_unsound : (s : Opening) (m n k : ℕ) (d : PlainShape × Option PlainContent) → k < m → m ≤ n
    → m ≤ length s.objects → fits_with n (get_or s.objects k d) ≡ false → is_sound (opening_front s m) ≡ false
front_unsound s m n k d low l h e =
    let here : k < length (take m s.objects) = omega (arith, low, length_front m s.objects h) in
    front_count s m false h (list_all_at (fits_with m) (take m s.objects) k d here
    (ap (fits_with m) (get_or-take m s.objects k d low) ∙ fails_less (get_or s.objects k d) m n l e))

-- the fronts between are not sound
pub count_drops : (s : Opening) (n k : ℕ) → k ≤ n
    → ((m : ℕ) → k < m → m ≤ n → is_sound (opening_front s m) ≡ false) → sound_count s n ≡ sound_count s k
count_drops s zero k l h = let same : 0 ≡ k = omega (arith, l) in ap (sound_count s) same
count_drops s (suc n) k l h = elim (cases_lt k (suc n)) [
  | inl less ↦
      ap (λ b. cond b (suc n) (sound_count s n)) (h (suc n) less (omega arith))
      ∙ count_drops s n k (omega (arith, less)) (λ m low high. h m low (omega (arith, high)))
  | inr past ↦ let same : suc n ≡ k = omega (arith, l, past) in ap (sound_count s) same
]

-- the whole front is sound
pub count_whole : (s : Opening) (n : ℕ) → is_sound (opening_front s n) ≡ true → sound_count s n ≡ n
count_whole s p h = grind arith

within : (b : Bool) (n k : ℕ) → k ≤ n → cond b (suc n) k ≤ suc n
within p n k h = grind arith

-- no more than there are
pub count_within : (s : Opening) (n : ℕ) → sound_count s n ≤ n
count_within s zero = omega arith
count_within s (suc n) = within (is_sound (opening_front s (suc n))) n (sound_count s n) (count_within s n)

sound_at : (s : Opening) (b : Bool) (n k : ℕ) → is_sound (opening_front s (suc n)) ≡ b
    → is_sound (opening_front s k) ≡ true → is_sound (opening_front s (cond b (suc n) k)) ≡ true
sound_at s p n k e h = grind arith

-- the front with so many objects is sound
pub count_sound : (s : Opening) (n : ℕ) → is_sound (opening_front s (sound_count s n)) ≡ true
count_sound s zero = refl
count_sound s (suc n) = sound_at s (is_sound (opening_front s (suc n))) n (sound_count s n) refl (count_sound s n)

at_least : (b : Bool) (n k m : ℕ) → m ≤ n → m ≤ k → m ≤ cond b (suc n) k
at_least p n k m l h = grind arith

-- a sound front has no more objects than that
pub count_most : (s : Opening) (n m : ℕ) → m ≤ n → is_sound (opening_front s m) ≡ true → m ≤ sound_count s n
count_most s zero m l h = l
count_most s (suc n) m l h = elim (cases_lt m (suc n)) [
  | inl less ↦
      let low : m ≤ n = omega (arith, less) in
      at_least (is_sound (opening_front s (suc n))) n (sound_count s n) m low (count_most s n m low h)
  | inr past ↦
      let same : m ≡ suc n = omega (arith, l, past) in
      omega (arith, l, count_whole s (suc n) (subst (λ k. is_sound (opening_front s k) ≡ true) same h))
]

-- THE OBJECTS THAT WERE READ

fits_at : (items : List OpenedObject) (k n : ℕ) (object : OpenedObject) (d : PlainShape × Option PlainContent)
    → k < length items → object ≡ get_or items k object
    → fits_with n (get_or (objects_read items) k d) ≡ fits_with n (object_read object)
fits_at items k n object d low e =
    ap (fits_with n) (get_or-map object_read items k object d low ∙ ap object_read (sym e))

-- an object fits that was found at a place
pub found_fits : (items : List OpenedObject) (k n : ℕ) (object : OpenedObject) (d : PlainShape × Option PlainContent)
    → k < length items → object ≡ get_or items k object → fits_with n (object_read object) ≡ true
    → fits_with n (get_or (objects_read items) k d) ≡ true
found_fits items k n object d low e h = fits_at items k n object d low e ∙ h

-- an object doesn't fit that was found at a place, so the fronts with it are not sound
pub found_fails : (items : List OpenedObject) (first_action first_entry k n : ℕ) (object : OpenedObject) → k < n
    → n ≤ length items → object ≡ get_or items k object → fits_with n (object_read object) ≡ false
    → sound_count (opening_at (objects_read items) first_action first_entry) n
    ≡ sound_count (opening_at (objects_read items) first_action first_entry) k
found_fails items first_action first_entry k n object low high e h =
    let s = opening_at (objects_read items) first_action first_entry in
    let here : k < length items = omega (arith, low, high) in
    let fails = fits_at items k n object (object_read object) here e ∙ h in
    count_drops s n k (omega (arith, low)) (λ m less most. front_unsound s m n k (object_read object) less most
    (omega (arith, most, high, length-map items object_read)) fails)

-- all objects that were read fit with so many
pub count_found : (items : List OpenedObject) (first_action first_entry n : ℕ) → n ≤ length items
    → ((k : ℕ) (d : PlainShape × Option PlainContent) → k < n → fits_with n (get_or (objects_read items) k d) ≡ true)
    → sound_count (opening_at (objects_read items) first_action first_entry) n ≡ n
count_found items first_action first_entry n h f =
    let s = opening_at (objects_read items) first_action first_entry in
    count_whole s n (front_sound s n (omega (arith, h, length-map items object_read)) f)

-- FRONTS

-- the front with all objects is the opening
pub front_all : (s : Opening) → opening_front s (length s.objects) ≡ s
front_all s = ap (λ (l : List (PlainShape × Option PlainContent)). opening_at l s.first_action s.first_entry)
    (take-length s.objects)

-- a sound opening is its own sound front
pub sound_whole : (s : Opening) → is_sound s ≡ true → opening_front s (sound_count s (length s.objects)) ≡ s
sound_whole s h = grind (arith, front_all, count_whole)

-- as many as there are make a sound front, so the opening is sound
pub all_sound : (s : Opening) (n : ℕ) → n ≡ length s.objects → n ≤ sound_count s n → is_sound (opening_front s n) ≡ true
all_sound s n e h = grind (arith, count_within, count_sound)
