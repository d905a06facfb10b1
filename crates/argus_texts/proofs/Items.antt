-- Where reading a list of values stops, and what is read of it.
use Rattle.std.proofs.Common.{◌≡◌, ◌≢◌, ℕ, ◌≤◌, inl, List, [], ◌∷◌, ◌++◌, length, refl, sym, ap, ◌∙◌, subst}
use Rattle.std.proofs.{Common.{append_assoc, append-nil, arith}, lemmas.List.map-append}
use Rattle.argus_contents.specs.Value.{PlainValue, PlainValues, none, more, listed, plain_value, plain_list}
use Rattle.argus_contents.specs.declared.value.Value.{Value}
use Rattle.argus_texts.specs.{Language.{Reads, Starts, NoWay, Stops, First}, Languages.{ValueEnds, IsClose, Values}}
use Rattle.argus_texts.specs.{Languages.{Insides, Items}, Spelling.{spelling, inside, behind, Within, AllWithin}}
use Rattle.argus_texts.proofs.{Lists.{tail_of, head_of}, Values.none_within, Forms.{close_no_comma, one_form}}
use Rattle.argus_texts.proofs.{Forms.{ends_behind, ends_first, value_ends}, Stops.{Behind, Among, starts_with}}
use Rattle.argus_texts.proofs.Stops.{stops_now, stops_in, stops_behind, stops_among}

-- the first value stops
value_first : (close : ℕ) → IsClose close → (k : ℕ) → Behind [] (Values k) (Items close k)
value_first close i k = record {
  forms = λ u t f. (
    t ++ close ∷ [],
    record {
      thing = (f.thing, none);
      good = (f.good, tt);
      is = sym (append_assoc u t (close ∷ [])) ∙ ap (λ x. x ++ close ∷ []) f.is;
    },
  );
  starts = λ u s. starts_with _ s.thing.0 u _ s.reads.good.0 (ends_behind close i s.thing.0 s.thing.1 s.rest)
      (s.reads.is ∙ append_assoc (spelling s.thing.0) (behind close s.thing.1) s.rest);
}

pub first_stops : (close : ℕ) → IsClose close → (k : ℕ) (text : List ℕ) (left : ℕ) → Stops (Values k) text left
    → Stops (Items close k) text left
first_stops close i k text left s = stops_behind [] (Values k) (Items close k) (value_first close i k) text left s

not_closed : (close : ℕ) → IsClose close → (vs : PlainValues) (u x : List ℕ) → 44 ∷ u ≡ behind close vs ++ x
    → (e : PlainValue) × (es : PlainValues) × (vs ≡ more e es) × (u ≡ (spelling e ++ behind close es) ++ x)
not_closed close i none u x e = absurd (close_no_comma close i (head_of e))
not_closed close i (more f fs) u x e = (f, fs, refl, tail_of e)

comma_start : (close : ℕ) → IsClose close → (k : ℕ) (d : PlainValue) → Within k d → (u : List ℕ)
    → Starts (Items close k) ((spelling d ++ 44 ∷ []) ++ u) → Starts (Items close k) u
comma_start close i k d w u s =
    let both : spelling d ++ 44 ∷ u ≡ spelling s.thing.0 ++ (behind close s.thing.1 ++ s.rest) =
    sym (append_assoc (spelling d) (44 ∷ []) u) ∙ s.reads.is
    ∙ append_assoc (spelling s.thing.0) (behind close s.thing.1) s.rest in
    let r = one_form k d s.thing.0 (44 ∷ u) (behind close s.thing.1 ++ s.rest) w s.reads.good.0
    (value_ends d (44 ∷ u) (inl (omega arith))) (ends_behind close i s.thing.0 s.thing.1 s.rest) both in
    let n = not_closed close i s.thing.1 u s.rest r.1 in
    let all : AllWithin k (more n.0 n.1) = subst (AllWithin k) n.2 s.reads.good.1 in
    record { thing = (n.0, n.1); rest = s.rest; reads = record { good = (all.0, all.1); ends = tt; is = n.3 } }

-- a value and a comma were read
value_and_comma : (close : ℕ) → IsClose close → (k : ℕ) (d : PlainValue) → Within k d
    → Behind (spelling d ++ 44 ∷ []) (Items close k) (Items close k)
value_and_comma close i k d w = record {
  forms = λ u t f. (
    t,
    record {
      thing = (d, more f.thing.0 f.thing.1);
      good = (w, (f.good.0, f.good.1));
      is = append_assoc (spelling d) (44 ∷ []) (u ++ t) ∙ ap (λ x. spelling d ++ 44 ∷ x) f.is;
    },
  );
  starts = λ u s. comma_start close i k d w u s;
}

pub comma_stops : (close : ℕ) → IsClose close → (k : ℕ) (d : PlainValue) (text next rest : List ℕ) (left : ℕ)
    → Reads (Values k) text d next → next ≡ 44 ∷ rest → Stops (Items close k) rest left
    → Stops (Items close k) text left
comma_stops close i k d text next rest left r e s =
    stops_in (spelling d ++ 44 ∷ []) (Items close k) (Items close k) (value_and_comma close i k d r.good) text rest left
    (r.is ∙ ap (λ x. spelling d ++ x) e ∙ sym (append_assoc (spelling d) (44 ∷ []) rest)) s

-- neither a comma nor the closing byte
abbrev pub NoEnd : ℕ → ℕ → Type 0
NoEnd close c = (c ≢ 44) × (c ≢ close)

no_end : (close : ℕ) (vs : PlainValues) (c : ℕ) (x y : List ℕ) → NoEnd close c → c ∷ x ≡ behind close vs ++ y → ⊥
no_end close none c x y n e = n.1 (head_of e)
no_end close (more d vs) c x y n e = n.0 (head_of e)

nothing_behind : (close : ℕ) (vs : PlainValues) (y : List ℕ) → [] ≡ behind close vs ++ y → ⊥
nothing_behind close none y e = cc
nothing_behind close (more d vs) y e = cc

no_end_way : (close : ℕ) → IsClose close → (k : ℕ) (d : PlainValue) (rest : List ℕ) → Within k d → ValueEnds d rest
    → First (NoEnd close) rest → NoWay (Items close k) (spelling d) rest
no_end_way close i k d [] w e n = λ s.
    let r = one_form k d s.thing.0 [] (behind close s.thing.1 ++ s.rest) w s.reads.good.0 (value_ends d [] tt)
    (ends_behind close i s.thing.0 s.thing.1 s.rest)
    (append-nil (spelling d) ∙ s.reads.is ∙ append_assoc (spelling s.thing.0) (behind close s.thing.1) s.rest) in
    nothing_behind close s.thing.1 s.rest r.1
no_end_way close i k d (c ∷ rest) w e n = λ more s.
    let r = one_form k d s.thing.0 (c ∷ more) (behind close s.thing.1 ++ s.rest) w s.reads.good.0
    (ends_first d c rest more e) (ends_behind close i s.thing.0 s.thing.1 s.rest)
    (s.reads.is ∙ append_assoc (spelling s.thing.0) (behind close s.thing.1) s.rest) in
    no_end close s.thing.1 c more s.rest n r.1

-- a value was read, and no comma or closing byte comes
pub no_end_stops : (close : ℕ) → IsClose close → (k : ℕ) (d : PlainValue) (text rest : List ℕ)
    → Reads (Values k) text d rest → First (NoEnd close) rest → Stops (Items close k) text (length rest)
no_end_stops close i k d text rest r n = record {
  front = spelling d;
  back = rest;
  whole = r.is;
  count = refl;
  more = close ∷ [];
  way = record { thing = (d, none); good = (r.good, tt); is = refl };
  no_way = no_end_way close i k d rest r.good r.ends n;
}

pub no_ascii_end : (close : ℕ) → IsClose close → (x : List ℕ) → First (λ c. 128 ≤ c) x → First (NoEnd close) x
no_ascii_end close i p h = grind arith

-- INSIDE THE BRACKETS

inside_starts : (close k : ℕ) (vs : PlainValues) (u x : List ℕ) → First (λ c. c ≢ close) u → AllWithin k vs
    → u ≡ inside close vs ++ x → Starts (Items close k) u
inside_starts close k none [] x n w e = cc
inside_starts close k none (c ∷ u) x n w e = absurd (n (head_of e))
inside_starts close k (more d vs) u x n w e = starts_with _ (d, vs) u x (w.0, w.1) tt e

items_inside : (close k : ℕ) → Among (λ c. c ≢ close) (Items close k) (Insides close k)
items_inside close k = record {
  forms = λ u f. record { thing = more f.thing.0 f.thing.1; good = (f.good.0, f.good.1); is = f.is };
  starts = λ u n s. inside_starts close k s.thing u s.rest n s.reads.good s.reads.is;
}

-- the closing byte doesn't come, and the values stop
pub inside_stops : (close k : ℕ) (text : List ℕ) (left : ℕ) → First (λ c. c ≢ close) text
    → Stops (Items close k) text left → Stops (Insides close k) text left
inside_stops close k text left n s =
    stops_among (λ c. c ≢ close) (Items close k) (Insides close k) (items_inside close k) text left n s

deep_way : (close : ℕ) (text : List ℕ) → First (λ c. c ≢ close) text → NoWay (Insides close 0) [] text
deep_way close [] n = λ s. let t = inside_starts close 0 s.thing [] s.rest n s.reads.good s.reads.is in
    none_within t.thing.0 t.reads.good.0
deep_way close (c ∷ u) n = λ more s. let t =
    inside_starts close 0 s.thing (c ∷ more) s.rest n s.reads.good s.reads.is in none_within t.thing.0 t.reads.good.0

-- no level is left for what comes in place of the closing byte
pub deep_stops : (close : ℕ) (text : List ℕ) → First (λ c. c ≢ close) text → Stops (Insides close 0) text (length text)
deep_stops close text n = stops_now (Insides close 0) (close ∷ []) (record { thing = none; good = tt; is = refl }) text
    (deep_way close text n)

-- WHAT IS READ

-- what is left decides what is read
abbrev pub Going : ℕ → ℕ → List ℕ → List ℕ → List PlainValue → Type 0
Going close k whole rest done =
    (v : PlainValue) (vs : List PlainValue) (end : List ℕ) → Within k v → AllWithin k (listed vs)
    → rest ≡ spelling v ++ (behind close (listed vs) ++ end)
    → Reads (Insides close k) whole (listed (done ++ v ∷ vs)) end

-- the closing byte comes
pub closes : (close k : ℕ) (whole rest next others : List ℕ) (done all : List PlainValue) (v : PlainValue)
    → Going close k whole rest done → Reads (Values k) rest v next → next ≡ close ∷ others → all ≡ done ++ v ∷ []
    → Reads (Insides close k) whole (listed all) others
closes close k whole rest next others done all v g r e a =
    subst (λ ds. Reads (Insides close k) whole (listed ds) others) (sym a)
    (g v [] others r.good tt (r.is ∙ ap (λ x. spelling v ++ x) e))

-- a comma comes
pub goes_on : (close k : ℕ) (whole rest next others : List ℕ) (done all : List PlainValue) (v : PlainValue)
    → Going close k whole rest done → Reads (Values k) rest v next → next ≡ 44 ∷ others → all ≡ done ++ v ∷ []
    → Going close k whole others all
goes_on close k whole rest next others done all v g r e a = λ d ds end w b i.
    let both : rest ≡ spelling v ++ (behind close (listed (d ∷ ds)) ++ end) = r.is ∙ ap (λ x. spelling v ++ x)
    (e ∙ ap (λ x. 44 ∷ x) (i ∙ sym (append_assoc (spelling d) (behind close (listed ds)) end))) in
    let h = g v (d ∷ ds) end r.good (w, b) both in
    let same : done ++ v ∷ (d ∷ ds) ≡ all ++ d ∷ ds =
    sym (append_assoc done (v ∷ []) (d ∷ ds)) ∙ ap (λ x. x ++ d ∷ ds) (sym a) in
    subst (λ x. Reads (Insides close k) whole (listed x) end) same h

-- one more value of the program's list
pub one_more : (done all : List Value) (v : Value) → all ≡ done ++ v ∷ []
    → plain_list all ≡ plain_list done ++ plain_value v ∷ []
one_more done all v e = ap plain_list e ∙ map-append plain_value done (v ∷ [])
