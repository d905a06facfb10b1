-- Where reading a tag and its value stops.
use Rattle.std.proofs.Common.{◌≡◌, ℕ, ◌<◌, inr, List, [], ◌∷◌, ◌++◌, length, arith}
use Rattle.std.specs.Fmt.{decimal}
use Rattle.argus_contents.specs.Value.{PlainValue, null}
use Rattle.argus_texts.specs.Language.{Language, Reads, Stops, IsNot}
use Rattle.argus_texts.specs.Languages.{Numbers, Word, Pairs, Values, Choices}
use Rattle.argus_texts.proofs.{Digits.numbers_clear, Forms.{value_precedes, values_clear}, Stops.pair_whole}
use Rattle.argus_texts.proofs.Stops.{Precedes, Clear, stops_in, stops_behind, pair_first, pair_second, pair_between}

abbrev Tags : Language
Tags = Numbers 0 255

abbrev Parts : ℕ → Language
Parts k = Pairs (Values k) 62 (Word [])

tag_clear : Clear Tags
tag_clear = numbers_clear 0 255 (omega arith)

tag_precedes : Precedes Tags 58
tag_precedes = λ a y. inr (omega arith)

value_then : (k : ℕ) → Precedes (Values k) 62
value_then k = value_precedes k 62 (inr (omega arith))

pub tag_stops : (k : ℕ) → 0 < k → (text : List ℕ) (left : ℕ) → Stops Tags text left → Stops (Choices k) text left
tag_stops k p text left s =
    stops_behind [] Tags (Choices k) (pair_first Tags (Parts k) 58 tag_precedes (null, tt) (p, tt)) text left s

pub colon_stops : (k : ℕ) → 0 < k → (text : List ℕ) (a : ℕ) (rest : List ℕ) → Reads Tags text a rest → IsNot 58 rest
    → Stops (Choices k) text (length rest)
colon_stops k p text a rest r n =
    pair_between Tags (Parts k) 58 tag_clear tag_precedes (null, tt) (p, tt) text a rest r n

behind_colon : (k : ℕ) (text : List ℕ) (a : ℕ) (next mid : List ℕ) (left : ℕ) → Reads Tags text a next → next ≡ 58 ∷ mid
    → Stops (Parts k) mid left → Stops (Choices k) text left
behind_colon k text a next mid left r e s = stops_in (decimal a ++ 58 ∷ []) (Parts k) (Choices k)
    (pair_second Tags (Parts k) 58 tag_clear tag_precedes a r.good) text mid left
    (pair_whole Tags 58 text a next mid r e) s

pub part_stops : (k : ℕ) (text : List ℕ) (a : ℕ) (next mid : List ℕ) (left : ℕ) → Reads Tags text a next
    → next ≡ 58 ∷ mid → Stops (Values k) mid left → Stops (Choices k) text left
part_stops k text a next mid left r e s = behind_colon k text a next mid left r e
    (stops_behind [] (Values k) (Parts k) (pair_first (Values k) (Word []) 62 (value_then k) tt tt) mid left s)

pub angle_stops : (k : ℕ) (text : List ℕ) (a : ℕ) (next mid : List ℕ) (v : PlainValue) (rest : List ℕ)
    → Reads Tags text a next → next ≡ 58 ∷ mid → Reads (Values k) mid v rest → IsNot 62 rest
    → Stops (Choices k) text (length rest)
angle_stops k text a next mid v rest r e q n = behind_colon k text a next mid (length rest) r e
    (pair_between (Values k) (Word []) 62 (values_clear k) (value_then k) tt tt mid v rest q n)
