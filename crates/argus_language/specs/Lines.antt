-- How a script is cut into lines, and which part of a line counts.
use Rattle.std.specs.Prelude.{ℕ, ◌-◌, ◌==◌, nat_lt, Bool, ◌&&◌, ◌||◌, not, if◌then◌else◌, List, [], ◌∷◌, length, take}
use Rattle.std.specs.Prelude.{reverse, slice_index}

-- a byte put before the first line
abbrev pub onto : ℕ → List (List ℕ) → List (List ℕ)
onto b [] = (b ∷ []) ∷ []
onto b (line ∷ lines) = (b ∷ line) ∷ lines

-- the lines of a script: it is cut after each line feed, which stays with its line
abbrev pub lines_of : List ℕ → List (List ℕ)
lines_of [] = []
lines_of (b ∷ bs) = if b == 10 then (10 ∷ []) ∷ lines_of bs else onto b (lines_of bs)

-- the bytes without the last one, if that is c
abbrev pub without_last : ℕ → List ℕ → List ℕ
without_last c bs = if nat_lt 0 (length bs) && slice_index bs (length bs - 1) == c then take
    (length bs - 1) bs else bs

-- a line without its line feed, and without one carriage return before it
abbrev pub ended : List ℕ → List ℕ
ended line = without_last 13 (without_last 10 line)

-- a space or a tab
abbrev pub is_blank : ℕ → Bool
is_blank b = b == 32 || b == 9

-- the bytes from the first that isn't a blank
abbrev pub behind_blanks : List ℕ → List ℕ
behind_blanks [] = []
behind_blanks (b ∷ bs) = if is_blank b then behind_blanks bs else b ∷ bs

-- the bytes up to the last that isn't a blank
abbrev pub before_blanks : List ℕ → List ℕ
before_blanks bs = reverse (behind_blanks (reverse bs))

-- the part of a line that counts: without its line end, and without blanks at either end
abbrev pub line_text : List ℕ → List ℕ
line_text line = before_blanks (behind_blanks (ended line))

-- the first word, which ends before the first blank
abbrev pub word : List ℕ → List ℕ
word [] = []
word (b ∷ bs) = if is_blank b then [] else b ∷ word bs

-- the bytes from the first blank on
abbrev pub behind_word : List ℕ → List ℕ
behind_word [] = []
behind_word (b ∷ bs) = if is_blank b then b ∷ bs else behind_word bs

-- there are no bytes
abbrev pub is_empty : List ℕ → Bool
is_empty bs = length bs == 0

-- the bytes from the second word on
abbrev pub others : List ℕ → List ℕ
others bs = behind_blanks (behind_word bs)

-- there are bytes, and no blank among them
abbrev pub is_word : List ℕ → Bool
is_word bs = not (is_empty bs) && is_empty (others bs)
