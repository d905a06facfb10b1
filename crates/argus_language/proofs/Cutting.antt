-- Bytes that were read already, before the lines and words of what is left.
use Rattle.std.proofs.Common.{◌≡◌, ◌≢◌, ℕ, ◌+◌, ◌<◌, ◌≤◌, ◌==◌, true, false, cond, List, [], ◌∷◌, ◌++◌, length, take}
use Rattle.std.proofs.Common.{drop, get_or, refl, sym, ◌∙◌, ap, subst, append_assoc, add-one, drop-cons, arith}
use Rattle.std.proofs.{lemmas.List.take_more, Math.Seq.{take-length, drop-length}, lemmas.Bool.Decides.nat_tests}
use Rattle.argus_language.specs.Lines.{onto, lines_of, is_blank, word, behind_word}

-- bytes in front of the first line
abbrev pub glue : List ℕ → List (List ℕ) → List (List ℕ)
glue [] lines = lines
glue (b ∷ bs) lines = onto b (glue bs lines)

pub glue-push : (bs : List ℕ) (b : ℕ) (lines : List (List ℕ)) → glue (bs ++ b ∷ []) lines ≡ glue bs (onto b lines)
glue-push [] b lines = refl
glue-push (c ∷ bs) b lines = ap (onto c) (glue-push bs b lines)

pub glue_line : (bs line : List ℕ) (lines : List (List ℕ)) → glue bs (line ∷ lines) ≡ (bs ++ line) ∷ lines
glue_line [] line lines = refl
glue_line (b ∷ bs) line lines = ap (onto b) (glue_line bs line lines)

pub glue_last : (b : ℕ) (bs : List ℕ) → glue (b ∷ bs) [] ≡ (b ∷ bs) ∷ []
glue_last b [] = refl
glue_last b (c ∷ bs) = ap (onto b) (glue_last c bs)

pub glue_whole : (bs : List ℕ) → 0 < length bs → glue bs [] ≡ bs ∷ []
glue_whole [] h = absurd (omega arith)
glue_whole (b ∷ bs) h = glue_last b bs

pub drop_here : (bs : List ℕ) (i : ℕ) → i < length bs → drop i bs ≡ get_or bs i 0 ∷ drop (i + 1) bs
drop_here bs i h = rw (add-one, drop-cons bs i 0) refl

test_false : (b c : ℕ) → b ≢ c → (b == c) ≡ false
test_false b c h = grind arith

lines_of_other : (b : ℕ) (bs : List ℕ) → b ≢ 10 → lines_of (b ∷ bs) ≡ onto b (lines_of bs)
lines_of_other b bs h = ap (λ t. cond t ((10 ∷ []) ∷ lines_of bs) (onto b (lines_of bs))) (test_false b 10 h)

lines_of_feed : (b : ℕ) (bs : List ℕ) → b ≡ 10 → lines_of (b ∷ bs) ≡ (b ∷ []) ∷ lines_of bs
lines_of_feed b bs e = subst (λ x. lines_of (x ∷ bs) ≡ (x ∷ []) ∷ lines_of bs) (sym e) refl

-- a byte more was passed that is no line feed
pub pass : (bs : List ℕ) (i : ℕ) → i < length bs → get_or bs i 0 ≢ 10
    → lines_of bs ≡ glue (take i bs) (lines_of (drop i bs))
    → lines_of bs ≡ glue (take (i + 1) bs) (lines_of (drop (i + 1) bs))
pass bs i h other e = e ∙ ap (λ d. glue (take i bs) (lines_of d)) (drop_here bs i h)
    ∙ ap (glue (take i bs)) (lines_of_other (get_or bs i 0) (drop (i + 1) bs) other)
    ∙ sym (glue-push (take i bs) (get_or bs i 0) (lines_of (drop (i + 1) bs)))
    ∙ ap (λ t. glue t (lines_of (drop (i + 1) bs))) (sym (take_more bs i 0 h))

-- the byte at i is a line feed: the first line is whole
pub meet : (bs : List ℕ) (i : ℕ) → i < length bs → get_or bs i 0 ≡ 10
    → lines_of bs ≡ glue (take i bs) (lines_of (drop i bs)) → lines_of bs ≡ take (i + 1) bs ∷ lines_of (drop (i + 1) bs)
meet bs i h feed e = grind (arith, drop_here, lines_of_feed, glue_line, take_more)

word_other : (b : ℕ) (bs : List ℕ) → is_blank b ≡ false
    → (word (b ∷ bs) ≡ b ∷ word bs) × (behind_word (b ∷ bs) ≡ behind_word bs)
word_other b bs e = (ap (λ t. cond t [] (b ∷ word bs)) e, ap (λ t. cond t (b ∷ bs) (behind_word bs)) e)

-- so many bytes stand in the first word, or at its end
pub record Passed (bs : List ℕ) (i : ℕ) : Type 0 where
  pub word : word bs ≡ take i bs ++ word (drop i bs)
  pub behind : behind_word bs ≡ behind_word (drop i bs)

pub passed_more : (bs : List ℕ) (i : ℕ) → i < length bs → is_blank (get_or bs i 0) ≡ false → Passed bs i
    → Passed bs (i + 1)
passed_more bs i h e p =
    let here = drop_here bs i h in
    let w = word_other (get_or bs i 0) (drop (i + 1) bs) e in
    record {
      word = p.word ∙ ap (λ d. take i bs ++ word d) here ∙ ap (λ d. take i bs ++ d) w.0
          ∙ sym (append_assoc (take i bs) (get_or bs i 0 ∷ []) (word (drop (i + 1) bs)))
          ∙ ap (λ t. t ++ word (drop (i + 1) bs)) (sym (take_more bs i 0 h));
      behind = p.behind ∙ ap behind_word here ∙ w.1;
    }

-- no line feed came: the last line is all
pub reach_end : (bs : List ℕ) (i : ℕ) → 0 < length bs → length bs ≤ i → i ≤ length bs
    → lines_of bs ≡ glue (take i bs) (lines_of (drop i bs))
    → lines_of bs ≡ take (length bs) bs ∷ lines_of (drop (length bs) bs)
reach_end bs i some low high e = grind (arith, drop-length, take-length, glue_whole)

pub blank_ascii : (b : ℕ) → is_blank b ≡ true → b < 128
blank_ascii b e = grind arith
