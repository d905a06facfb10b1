-- The form of a content: that a text begins with at most one, and where reading it stops.
use Rattle.std.proofs.Common.{◌≡◌, ◌≢◌, ℕ, inl, inr, List, [], ◌∷◌, ◌++◌, length, refl, sym, ap, ◌∙◌, subst}
use Rattle.std.proofs.Common.{append_assoc, append-nil, arith}
use Rattle.std.specs.{Prelude.ℤ, Fmt.{decimal, signed_decimal}}
use Rattle.argus_contents.specs.{Value.{PlainValue, PlainValues, none, more, listed}, Content.{PlainContent, rec, arr}}
use Rattle.argus_contents.specs.{Content.var, declared.limits.TheConstants.MAX_VALUE_DEPTH}
use Rattle.argus_texts.specs.{ContentSpelling.{content_spelling, PartsWithin}, Fault.IsContentText, Laws.IsReadBack}
use Rattle.argus_texts.specs.{Language.{Reads, Starts, Stops, First, IsNot}, Spelling.{spelling, inside, AllWithin}}
use Rattle.argus_texts.specs.Languages.{BeginsInt, Ints, Insides, Choices, Contents, Arrays}
use Rattle.argus_texts.proofs.{Digits.{one_decimal, ints_clear}, Faults.Accepts, Lists.{tail_of, head_of}}
use Rattle.argus_texts.proofs.{Forms.{int_lead, int_front, one_form, one_inside, value_ends, choice_form}, Stops.Clear}
use Rattle.argus_texts.proofs.Stops.{Behind, Among, Precedes, stops_in, stops_behind, stops_among, pair_first}
use Rattle.argus_texts.proofs.Stops.{pair_second, pair_between, pair_whole, behind_byte, starts_with}

-- the list of values
unlisted : PlainValues → List PlainValue
unlisted none = []
unlisted (more v vs) = v ∷ unlisted vs

listed_unlisted : (vs : PlainValues) → listed (unlisted vs) ≡ vs
unfolding unlisted
listed_unlisted none = refl
listed_unlisted (more v vs) = ap (more v) (listed_unlisted vs)

unlisted_listed : (vs : List PlainValue) → unlisted (listed vs) ≡ vs
unfolding unlisted
unlisted_listed [] = refl
unlisted_listed (v ∷ vs) = ap (λ x. v ∷ x) (unlisted_listed vs)

same_list : (vs ws : List PlainValue) → listed vs ≡ listed ws → vs ≡ ws
same_list vs ws e = sym (unlisted_listed vs) ∙ ap unlisted e ∙ unlisted_listed ws

-- a content's form may begin with the byte
abbrev Kind : PlainContent → ℕ → Type 0
Kind (rec vs) c = c ≡ 123
Kind (arr low vs) c = BeginsInt c
Kind (var t v) c = c ≡ 60

kind_of : (k : ℕ) (e : PlainContent) (c : ℕ) (x y : List ℕ) → PartsWithin k e → c ∷ x ≡ content_spelling e ++ y
    → Kind e c
kind_of k p c x y w e = grind (arith, head_of, int_lead, append_assoc)

abbrev Front : List ℕ → Type 0
Front form = (c : ℕ) × (ds : List ℕ) × (form ≡ c ∷ ds)

front_of : (k : ℕ) (e : PlainContent) → PartsWithin k e → Front (content_spelling e)
front_of k (rec vs) w = (123, inside 125 (listed vs), refl)
front_of k (arr low vs) w = let f = int_front low w.0 in
    (f.0, f.1 ++ 91 ∷ inside 93 (listed vs), ap (λ x. x ++ 91 ∷ inside 93 (listed vs)) f.2)
front_of k (var t v) w = (60, decimal t ++ 58 ∷ (spelling v ++ 62 ∷ []), refl)

both_kinds : (k : ℕ) (d e : PlainContent) (x y : List ℕ) → PartsWithin k d → PartsWithin k e
    → content_spelling d ++ x ≡ content_spelling e ++ y → (c : ℕ) × Kind d c × Kind e c
both_kinds k d e x y w v q = grind (arith, front_of, kind_of, append-nil)

pub one_content : (k : ℕ) (d e : PlainContent) (x y : List ℕ) → PartsWithin k d → PartsWithin k e
    → content_spelling d ++ x ≡ content_spelling e ++ y → (d ≡ e) × (x ≡ y)
one_content k (rec ds) (rec es) x y w v e =
    let r = one_inside k 125 (inr refl) (listed ds) (listed es) x y w v (tail_of e) in
    (ap rec (same_list ds es r.0), r.1)
one_content k (arr m ds) (arr n es) x y w v e = let both : signed_decimal m ++ 91 ∷ (inside 93 (listed ds) ++ x)
    ≡ signed_decimal n ++ 91 ∷ (inside 93 (listed es) ++ y) =
    sym (append_assoc (signed_decimal m) (91 ∷ inside 93 (listed ds)) x) ∙ e
    ∙ append_assoc (signed_decimal n) (91 ∷ inside 93 (listed es)) y in
    let r = ints_clear.one m n (91 ∷ (inside 93 (listed ds) ++ x)) (91 ∷ (inside 93 (listed es) ++ y)) w.0 v.0
    (inr (omega arith)) (inr (omega arith)) both in
    let s = one_inside k 93 (inl refl) (listed ds) (listed es) x y w.1 v.1 (tail_of r.1) in
    (ap (λ z. arr z ds) r.0 ∙ ap (arr n) (same_list ds es s.0), s.1)
one_content k (var s d) (var t e) x y w v i =
    let a : decimal s ++ 58 ∷ (spelling d ++ 62 ∷ x) ≡ decimal t ++ 58 ∷ (spelling e ++ 62 ∷ y) =
    sym (choice_form s d x) ∙ tail_of i ∙ choice_form t e y in
    let r = one_decimal s t (58 ∷ (spelling d ++ 62 ∷ x)) (58 ∷ (spelling e ++ 62 ∷ y)) (omega (arith, w.0))
    (omega (arith, v.0)) (inr (omega arith)) (inr (omega arith)) a in
    let u = one_form k d e (62 ∷ x) (62 ∷ y) w.1 v.1 (value_ends d (62 ∷ x) (inr (omega arith)))
    (value_ends e (62 ∷ y) (inr (omega arith))) (tail_of r.1) in
    (ap (λ n. var n d) r.0 ∙ ap (λ z. var t z) u.0, tail_of u.1)
one_content k d e x y w v i = let b = both_kinds k d e x y w v i in absurd (omega arith)

pub contents_clear : (k : ℕ) → Clear (Contents k)
contents_clear k =
    record { one = λ d e x y w v p q i. one_content k d e x y w v i; nil = λ d. tt; first = λ d c x y e. tt }

pub content_texts : Accepts (Contents 16) IsContentText
content_texts = grind arith

-- a content that the reader takes is read back
pub read_back : (c : PlainContent) → PartsWithin MAX_VALUE_DEPTH c → IsReadBack c
read_back c w = (
  (λ at f. f.refused (record { content = c; within = w; is = refl })),
  (λ d g e. sym (one_content MAX_VALUE_DEPTH c d [] [] w g (ap (λ x. x ++ []) e)).0),
)

-- RECORDS AND VARIANTS

brace_starts : (k : ℕ) (e : PlainContent) (u y : List ℕ) → PartsWithin k e → 123 ∷ u ≡ content_spelling e ++ y
    → Starts (Insides 125 k) u
brace_starts k p u y w i = grind (arith, starts_with, tail_of, kind_of)

pub record_brace : (k : ℕ) → Behind (123 ∷ []) (Insides 125 k) (Contents k)
record_brace k = behind_byte 123 _ _ (λ vs g. (
  rec (unlisted vs),
  subst (AllWithin k) (sym (listed_unlisted vs)) g,
  ap (λ ws. 123 ∷ inside 125 ws) (listed_unlisted vs),
)) (λ e u y w v i. brace_starts k e u y w i)

angle_starts : (k : ℕ) (e : PlainContent) (u y : List ℕ) → PartsWithin k e → 60 ∷ u ≡ content_spelling e ++ y
    → Starts (Choices k) u
angle_starts k (var t v) u y w i =
    starts_with _ (t, (v, tt)) u y ((omega arith, omega (arith, w.0)), (w.1, tt)) tt (tail_of i)
angle_starts k e u y w i = let l = kind_of k e 60 u y w i in absurd (omega arith)

pub variant_angle : (k : ℕ) → Behind (60 ∷ []) (Choices k) (Contents k)
variant_angle k = behind_byte 60 _ _ (λ t g. (var t.0 t.1.0, (omega (arith, g.0.1), g.1.0), refl))
    (λ e u y w v i. angle_starts k e u y w i)

-- ARRAYS

abbrev pub BeginsNeither : ℕ → Type 0
BeginsNeither c = (c ≢ 123) × (c ≢ 60)

array_starts : (k : ℕ) (e : PlainContent) (u y : List ℕ) → First BeginsNeither u → PartsWithin k e
    → u ≡ content_spelling e ++ y → Starts (Arrays k) u
array_starts k (rec vs) [] y n w i = cc
array_starts k (rec vs) (c ∷ u) y n w i = absurd (n.0 (head_of i))
array_starts k (var t v) [] y n w i = cc
array_starts k (var t v) (c ∷ u) y n w i = absurd (n.1 (head_of i))
array_starts k (arr low vs) u y n w i = starts_with _ (low, listed vs) u y (w.0, w.1) tt i

arrays : (k : ℕ) → Among BeginsNeither (Arrays k) (Contents k)
arrays k = record {
  forms = λ u f. record {
    thing = arr f.thing.0 (unlisted f.thing.1);
    good = (f.good.0, subst (AllWithin k) (sym (listed_unlisted f.thing.1)) f.good.1);
    is = f.is ∙ ap (λ vs. signed_decimal f.thing.0 ++ 91 ∷ inside 93 vs) (sym (listed_unlisted f.thing.1));
  };
  starts = λ u n s. array_starts k s.thing u s.rest n s.reads.good s.reads.is;
}

pub neither : (x : List ℕ) → IsNot 123 x → IsNot 60 x → First BeginsNeither x
neither r p q = grind arith

array_stops : (k : ℕ) (text : List ℕ) (left : ℕ) → First BeginsNeither text → Stops (Arrays k) text left
    → Stops (Contents k) text left
array_stops k text left n s = stops_among BeginsNeither (Arrays k) (Contents k) (arrays k) text left n s

int_precedes : Precedes Ints 91
int_precedes = λ a y. inr (omega arith)

pub low_stops : (k : ℕ) (text : List ℕ) (left : ℕ) → First BeginsNeither text → Stops Ints text left
    → Stops (Contents k) text left
low_stops k text left n s = array_stops k text left n
    (stops_behind [] Ints (Arrays k) (pair_first Ints (Insides 93 k) 91 int_precedes none tt) text left s)

pub bracket_stops : (k : ℕ) (text : List ℕ) (a : ℤ) (rest : List ℕ) → First BeginsNeither text → Reads Ints text a rest
    → IsNot 91 rest → Stops (Contents k) text (length rest)
bracket_stops k text a rest n r b = array_stops k text (length rest) n
    (pair_between Ints (Insides 93 k) 91 ints_clear int_precedes none tt text a rest r b)

pub items_stops : (k : ℕ) (text : List ℕ) (a : ℤ) (next mid : List ℕ) (left : ℕ) → First BeginsNeither text
    → Reads Ints text a next → next ≡ 91 ∷ mid → Stops (Insides 93 k) mid left → Stops (Contents k) text left
items_stops k text a next mid left n r e s = array_stops k text left n
    (stops_in (signed_decimal a ++ 91 ∷ []) (Insides 93 k) (Arrays k)
    (pair_second Ints (Insides 93 k) 91 ints_clear int_precedes a r.good) text mid left
    (pair_whole Ints 91 text a next mid r e) s)
