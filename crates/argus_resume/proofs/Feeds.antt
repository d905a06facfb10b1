-- Line feeds of a text: where its first line ends, and how many lines end in it.
use Rattle.std.proofs.lemmas.{Bool.eqb-false, List.{get_or-take, take-append-drop, Quantifiers.position-Some}}
use Rattle.std.proofs.{lemmas.List.Sums.{fails_before_first, sum_by-append}, Common.{◌≡◌, ◌≢◌, ℕ, suc, ◌+◌, ◌<◌, Bool}}
use Rattle.std.proofs.Common.{false, cond, List, [], ◌∷◌, ◌++◌, length, None, Option, Some, take, drop, get_or, refl}
use Rattle.std.proofs.Common.{sym, ap, ◌∙◌, arith, append_assoc, drop-cons, length-take, take-add, eqb-true}
use Rattle.std.specs.{List.position, Prelude.{is_some, ◌==◌}}
use Rattle.argus_resume.specs.Taking.{HasNoFeed, IsFirstLine, line_count}

abbrev is_feed : ℕ → Bool
is_feed b = b == 10

no_feed_from : (xs : List ℕ) → ((k : ℕ) → k < length xs → is_feed (get_or xs k 0) ≡ false) → HasNoFeed xs
no_feed_from [] h = tt
no_feed_from (b ∷ xs) h = (eqb-false b 10 (h 0 (omega arith)), no_feed_from xs (λ k l. h (suc k) (omega arith)))

pub no_feed-append : (xs ys : List ℕ) → HasNoFeed xs → HasNoFeed ys → HasNoFeed (xs ++ ys)
no_feed-append [] ys h k = k
no_feed-append (b ∷ xs) ys h k = (h.0, no_feed-append xs ys h.1 k)

past : (b : Bool) (n : ℕ) → cond b (Some n) None ≡ None → b ≡ false
past p n e = grind arith

-- an option that isn't there
pub not_some : {A : Type 0} (o : Option A) → is_some o ≡ false → o ≡ None
not_some p h = grind arith

-- there is no line feed
pub none_there : (text : List ℕ) → position is_feed text ≡ None → HasNoFeed text
none_there text e = grind (arith, past, no_feed_from, fails_before_first)

-- the first line feed is at this place
pub record FeedAt (text : List ℕ) (n : ℕ) : Type 0 where
  pub within : n < length text
  pub none : HasNoFeed (take n text)
  pub split : text ≡ take n text ++ 10 ∷ drop (n + 1) text
  pub line : take (n + 1) text ≡ take n text ++ 10 ∷ []

front_none : (text : List ℕ) (n : ℕ) → n < length text → ((k : ℕ) → k < n → is_feed (get_or text k 0) ≡ false)
    → HasNoFeed (take n text)
front_none text n w h = no_feed_from (take n text) (λ k l. let low : k < n = omega (arith, l, length-take n text) in
    ap is_feed (get_or-take n text k 0 low) ∙ h k low)

rest_there : (text : List ℕ) (n : ℕ) → n < length text → get_or text n 0 ≡ 10 → drop n text ≡ 10 ∷ drop (n + 1) text
rest_there text n w e = grind (arith, drop-cons)

pub feed_there : (text : List ℕ) (n : ℕ) → position is_feed text ≡ Some n → FeedAt text n
feed_there text n e =
    let p = position-Some is_feed text n 0 e in
    let ten : get_or text n 0 ≡ 10 = eqb-true (get_or text n 0) 10 p.1 in
    let rest = rest_there text n p.0 ten in
    record {
      within = p.0;
      none = front_none text n p.0 p.2;
      split = sym (take-append-drop n text) ∙ ap (λ t. take n text ++ t) rest;
      line = take-add n 1 text ∙ ap (λ t. take n text ++ take 1 t) rest;
    }

-- COUNTS

pub count-append : (xs ys : List ℕ) → line_count (xs ++ ys) ≡ line_count xs + line_count ys
count-append xs ys = sum_by-append (λ b. cond (is_feed b) 1 0) xs ys

count_one : (b : ℕ) → b ≢ 10 → line_count (b ∷ []) ≡ 0
count_one b n = grind (arith, n)

pub count_none : (xs : List ℕ) → HasNoFeed xs → line_count xs ≡ 0
count_none [] h = refl
count_none (b ∷ xs) h = omega (arith, count-append (b ∷ []) xs, count_one b h.0, count_none xs h.1)

pub first_line : (text : List ℕ) (n : ℕ) → FeedAt text n → IsFirstLine (n + 1) text
first_line text n f = grind (arith, count-append, count_none)

-- the lines of a front and of what was taken behind it
pub count_more : (text : List ℕ) (a b lines : ℕ) → lines ≡ line_count (take a text)
    → line_count (take b (drop a text)) ≡ 1 → lines + 1 ≡ line_count (take (a + b) text)
count_more text a b lines e f = ap (λ k. k + 1) e ∙ ap (λ k. line_count (take a text) + k) (sym f)
    ∙ sym (count-append (take a text) (take b (drop a text))) ∙ ap line_count (sym (take-add a b text))

-- a text that grew by a front, and by what was taken behind it
pub text_more : (one two three text : List ℕ) (a b : ℕ) → two ≡ one ++ take a text
    → three ≡ two ++ take b (drop a text) → three ≡ one ++ take (a + b) text
text_more one two three text a b e f = grind (arith, append_assoc, take-add)
