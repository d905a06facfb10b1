-- Where reading stops: what was read so far can be gone on with, but not as the text goes on.
use Rattle.std.proofs.Common.{arith, ◌≡◌, ℕ, suc, ◌<◌, List, [], ◌∷◌, ◌++◌, length, take, drop, get_or, refl, sym, ap}
use Rattle.std.proofs.{Common.{◌∙◌, subst, append_assoc, append-nil}, lemmas.List.take-append-drop}
use Rattle.argus_texts.specs.{Language.{Language, FormOf, Reads, Starts, NoWay, Stops, First, IsNot}, Languages.Pairs}
use Rattle.argus_texts.specs.Languages.{Word}
use Rattle.argus_texts.proofs.Lists.{tail_of, head_of, cancel, split_at}

-- a text is read as one thing at most, and what may follow depends on the first byte alone
pub record Clear (L : Language) : Type 0 where
  pub one : (a b : L.Thing) (x y : List ℕ) → L.Good a → L.Good b → L.Ends a x → L.Ends b y
      → L.form a ++ x ≡ L.form b ++ y → (a ≡ b) × (x ≡ y)
  pub nil : (a : L.Thing) → L.Ends a []
  pub first : (a : L.Thing) (c : ℕ) (x y : List ℕ) → L.Ends a (c ∷ x) → L.Ends a (c ∷ y)

-- a text begins with the form of this thing
pub starts_with : (L : Language) (thing : L.Thing) (u rest : List ℕ) → L.Good thing → L.Ends thing rest
    → u ≡ L.form thing ++ rest → Starts L u
starts_with L thing u rest g n e = record { thing = thing; rest = rest; reads = record { good = g; ends = n; is = e } }

-- L behind a is a part of M
pub record Behind (a : List ℕ) (L M : Language) : Type 0 where
  pub forms : (u t : List ℕ) → FormOf L (u ++ t) → (v : List ℕ) × FormOf M (a ++ (u ++ v))
  pub starts : (u : List ℕ) → Starts M (a ++ u) → Starts L u

-- behind a byte, where M has a thing for each of L that is written with the byte in front
pub behind_byte : (c : ℕ) (L M : Language)
    → ((t : L.Thing) → L.Good t → (m : M.Thing) × M.Good m × (M.form m ≡ c ∷ L.form t))
    → ((m : M.Thing) (u y : List ℕ) → M.Good m → M.Ends m y → c ∷ u ≡ M.form m ++ y → Starts L u) → Behind (c ∷ []) L M
behind_byte c L M into starts = grind arith

no_way_behind : (a : List ℕ) (L M : Language) → Behind a L M → (front back : List ℕ) → NoWay L front back
    → NoWay M (a ++ front) back
no_way_behind a p q b front r h = grind (arith, append_assoc)

pub stops_behind : (a : List ℕ) (L M : Language) → Behind a L M → (text : List ℕ) (left : ℕ) → Stops L text left
    → Stops M (a ++ text) left
stops_behind a L M b text left s =
    let f = b.forms s.front s.more s.way in
    record {
      front = a ++ s.front;
      back = s.back;
      whole = ap (λ u. a ++ u) s.whole ∙ sym (append_assoc a s.front s.back);
      count = s.count;
      more = f.0;
      way = subst (FormOf M) (sym (append_assoc a s.front f.0)) f.1;
      no_way = no_way_behind a L M b s.front s.back s.no_way;
    }

-- the same of a text that begins with the bytes
pub stops_in : (a : List ℕ) (L M : Language) → Behind a L M → (text rest : List ℕ) (left : ℕ) → text ≡ a ++ rest
    → Stops L rest left → Stops M text left
stops_in a L M b text rest left e s = subst (λ x. Stops M x left) (sym e) (stops_behind a L M b rest left s)

-- L is the part of M whose texts begin with such a byte
pub record Among (P : ℕ → Type 0) (L M : Language) : Type 0 where
  pub forms : (u : List ℕ) → FormOf L u → FormOf M u
  pub starts : (u : List ℕ) → First P u → Starts M u → Starts L u

no_way_among : (P : ℕ → Type 0) (L M : Language) → Among P L M → (front back : List ℕ) → First P (front ++ back)
    → NoWay L front back → NoWay M front back
no_way_among P L M a [] [] p h = λ s. h (a.starts [] tt s)
no_way_among P L M a [] (c ∷ back) p h = λ more s. h more (a.starts (c ∷ more) p s)
no_way_among P L M a (f ∷ front) [] p h = λ s. h (a.starts (f ∷ front) p s)
no_way_among P L M a (f ∷ front) (c ∷ back) p h = λ more s. h more (a.starts (f ∷ (front ++ c ∷ more)) p s)

pub stops_among : (P : ℕ → Type 0) (L M : Language) → Among P L M → (text : List ℕ) (left : ℕ) → First P text
    → Stops L text left → Stops M text left
stops_among P L M a text left p s = record {
  front = s.front;
  back = s.back;
  whole = s.whole;
  count = s.count;
  more = s.more;
  way = a.forms (s.front ++ s.more) s.way;
  no_way = no_way_among P L M a s.front s.back (subst (First P) s.whole p) s.no_way;
}

-- no form begins so
pub stops_now : (L : Language) (m : List ℕ) → FormOf L m → (text : List ℕ) → NoWay L [] text
    → Stops L text (length text)
stops_now L m f text n = record { front = []; back = text; whole = refl; count = refl; more = m; way = f; no_way = n }

-- PAIRS

-- whatever a form of L is, c may follow it
abbrev pub Precedes : Language → ℕ → Type 0
Precedes L c = (a : L.Thing) (y : List ℕ) → L.Ends a (c ∷ y)

pub pair_first : (L M : Language) (c : ℕ) → Precedes L c → (m : M.Thing) → M.Good m → Behind [] L (Pairs L c M)
pair_first L M c p m g = record {
  forms = λ u t f. (
    t ++ c ∷ M.form m,
    record {
      thing = (f.thing, m);
      good = (f.good, g);
      is = sym (append_assoc u t (c ∷ M.form m)) ∙ ap (λ x. x ++ c ∷ M.form m) f.is;
    },
  );
  starts = λ u s. starts_with L s.thing.0 u _ s.reads.good.0 (p s.thing.0 (M.form s.thing.1 ++ s.rest))
      (s.reads.is ∙ append_assoc (L.form s.thing.0) (c ∷ M.form s.thing.1) s.rest);
}

second_starts : (L M : Language) (c : ℕ) → Clear L → Precedes L c → (a : L.Thing) → L.Good a → (u : List ℕ)
    → Starts (Pairs L c M) ((L.form a ++ c ∷ []) ++ u) → Starts M u
second_starts L M c k p a g u s =
    let y : List ℕ = M.form s.thing.1 ++ s.rest in
    let e : L.form a ++ c ∷ u ≡ L.form s.thing.0 ++ c ∷ y = sym (append_assoc (L.form a) (c ∷ []) u) ∙ s.reads.is
    ∙ append_assoc (L.form s.thing.0) (c ∷ M.form s.thing.1) s.rest in
    let r = k.one a s.thing.0 (c ∷ u) (c ∷ y) g s.reads.good.0 (p a u) (p s.thing.0 y) e in
    starts_with M s.thing.1 u s.rest s.reads.good.1 s.reads.ends (tail_of r.1)

pub pair_second : (L M : Language) (c : ℕ) → Clear L → Precedes L c → (a : L.Thing) → L.Good a
    → Behind (L.form a ++ c ∷ []) M (Pairs L c M)
pair_second L M c k p a g = record {
  forms = λ u t f. (
    t,
    record {
      thing = (a, f.thing);
      good = (g, f.good);
      is = append_assoc (L.form a) (c ∷ []) (u ++ t) ∙ ap (λ x. L.form a ++ c ∷ x) f.is;
    },
  );
  starts = λ u s. second_starts L M c k p a g u s;
}

between_way : (L M : Language) (c : ℕ) → Clear L → Precedes L c → (a : L.Thing) (rest : List ℕ) → L.Good a
    → L.Ends a rest → IsNot c rest → NoWay (Pairs L c M) (L.form a) rest
between_way L M c k p a [] g e n = λ s. let y : List ℕ = M.form s.thing.1 ++ s.rest in
    let r = k.one a s.thing.0 [] (c ∷ y) g s.reads.good.0 (k.nil a) (p s.thing.0 y)
    (append-nil (L.form a) ∙ s.reads.is ∙ append_assoc (L.form s.thing.0) (c ∷ M.form s.thing.1) s.rest) in
    let x : [] ≡ c ∷ y = r.1 in cc
between_way L M c k p a (d ∷ rest) g e n = λ more s. let y : List ℕ = M.form s.thing.1 ++ s.rest in
    let r = k.one a s.thing.0 (d ∷ more) (c ∷ y) g s.reads.good.0 (k.first a d rest more e) (p s.thing.0 y)
    (s.reads.is ∙ append_assoc (L.form s.thing.0) (c ∷ M.form s.thing.1) s.rest) in
    n (head_of r.1)

-- a form of L was read, and c doesn't come
pub pair_between : (L M : Language) (c : ℕ) → Clear L → Precedes L c → (m : M.Thing) → M.Good m
    → (text : List ℕ) (a : L.Thing) (rest : List ℕ) → Reads L text a rest → IsNot c rest
    → Stops (Pairs L c M) text (length rest)
pair_between L M c k p m g text a rest r n = record {
  front = L.form a;
  back = rest;
  whole = r.is;
  count = refl;
  more = c ∷ M.form m;
  way = record { thing = (a, m); good = (r.good, g); is = refl };
  no_way = between_way L M c k p a rest r.good r.ends n;
}

-- the text goes on behind a form of L and c
pub pair_whole : (L : Language) (c : ℕ) (text : List ℕ) (a : L.Thing) (next mid : List ℕ) → Reads L text a next
    → next ≡ c ∷ mid → text ≡ (L.form a ++ c ∷ []) ++ mid
pair_whole L c text a next mid r e = r.is ∙ ap (λ x. L.form a ++ x) e ∙ sym (append_assoc (L.form a) (c ∷ []) mid)

-- WORDS

word_way : (word rest : List ℕ) (i : ℕ) → i < length word → IsNot (get_or word i 0) rest
    → NoWay (Word word) (take i word) rest
word_way word [] i h n = λ s.
    let e : take i word ++ [] ≡ take i word ++ ((get_or word i 0 ∷ drop (suc i) word) ++ s.rest) =
    append-nil (take i word) ∙ s.reads.is ∙ ap (λ w. w ++ s.rest) (split_at word i h)
    ∙ append_assoc (take i word) (get_or word i 0 ∷ drop (suc i) word) s.rest in
    let x : [] ≡ get_or word i 0 ∷ (drop (suc i) word ++ s.rest) =
    cancel (take i word) [] (get_or word i 0 ∷ (drop (suc i) word ++ s.rest)) e in cc
word_way word (c ∷ rest) i h n = λ more s.
    let e : take i word ++ c ∷ more ≡ take i word ++ ((get_or word i 0 ∷ drop (suc i) word) ++ s.rest) =
    s.reads.is ∙ ap (λ w. w ++ s.rest) (split_at word i h)
    ∙ append_assoc (take i word) (get_or word i 0 ∷ drop (suc i) word) s.rest in
    n (head_of (cancel (take i word) (c ∷ more) (get_or word i 0 ∷ (drop (suc i) word ++ s.rest)) e))

-- the text parts from the word at the index i
pub word_stops : (word text rest : List ℕ) (i : ℕ) → i < length word → text ≡ take i word ++ rest
    → IsNot (get_or word i 0) rest → Stops (Word word) text (length rest)
word_stops word text rest i h e n = record {
  front = take i word;
  back = rest;
  whole = e;
  count = refl;
  more = drop i word;
  way = record { thing = tt; good = tt; is = take-append-drop i word };
  no_way = word_way word rest i h n;
}
