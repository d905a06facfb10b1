-- Languages with a word before, and two languages with a byte between: where they stop.
use Rattle.std.proofs.Common.{arith, ◌≡◌, ℕ, List, [], ◌∷◌, ◌++◌, length, sym, ap, ◌∙◌, subst, append-nil, append_assoc}
use Rattle.argus_texts.specs.{Language.{Language, IsNot, NoWay, Reads, Starts, Stops}, Languages.{Pairs, Word}}
use Rattle.argus_texts.proofs.{Lists.{cancel, tail_of}, Stops.{pair_second, pair_whole, Behind, Clear, Precedes}}
use Rattle.argus_texts.proofs.Stops.{stops_behind, stops_in, pair_between, pair_first}
use Rattle.argus_reading.specs.Combined.{Worded}

no_way_starts : (L : Language) (front back : List ℕ) → NoWay L front back → Starts L (front ++ back) → ⊥
no_way_starts p front q h t = grind (arith, append-nil)

-- a text at which a reader stops doesn't begin with a form
pub stops_starts : (L : Language) (text : List ℕ) (left : ℕ) → Stops L text left → Starts L text → ⊥
stops_starts L text left s t = no_way_starts L s.front s.back s.no_way (subst (Starts L) s.whole t)

worded_first : (w : List ℕ) (L : Language) (m : L.Thing) → L.Good m → Behind [] (Word w) (Worded w L)
worded_first w L m g = record {
  forms = λ u t f. (
    t ++ L.form m,
    record { thing = m; good = g; is = sym (append_assoc u t (L.form m)) ∙ ap (λ x. x ++ L.form m) f.is },
  );
  starts = λ u s. record {
    thing = tt;
    rest = L.form s.thing ++ s.rest;
    reads = record { good = tt; ends = tt; is = s.reads.is ∙ append_assoc w (L.form s.thing) s.rest };
  };
}

worded_second : (w : List ℕ) (L : Language) → Behind w L (Worded w L)
worded_second w L = record {
  forms = λ u t f. (t, record { thing = f.thing; good = f.good; is = ap (λ x. w ++ x) f.is });
  starts = λ u s. record {
    thing = s.thing;
    rest = s.rest;
    reads = record {
      good = s.reads.good;
      ends = s.reads.ends;
      is = cancel w u (L.form s.thing ++ s.rest) (s.reads.is ∙ append_assoc w (L.form s.thing) s.rest);
    };
  };
}

-- the word doesn't come
pub word_lacks : (w : List ℕ) (L : Language) (m : L.Thing) → L.Good m → {text : List ℕ} {left : ℕ}
    → Stops (Word w) text left → Stops (Worded w L) text left
word_lacks w L m g {text = text} {left = left} s =
    stops_behind [] (Word w) (Worded w L) (worded_first w L m g) text left s

-- nothing comes behind the word
pub word_ends : (w : List ℕ) (L : Language) {text mid : List ℕ} {left : ℕ} → text ≡ w ++ mid → Stops L mid left
    → Stops (Worded w L) text left
word_ends w L {text = text} {mid = mid} {left = left} e s =
    stops_in w L (Worded w L) (worded_second w L) text mid left e s

pub worded_clear : (w : List ℕ) (L : Language) → Clear L → Clear (Worded w L)
worded_clear w L k = grind (arith, cancel, append_assoc)

-- L, the byte c and M make a pair that is told
pub record Joint (L : Language) (c : ℕ) (M : Language) : Type 0 where
  pub clear : Clear L
  pub precedes : Precedes L c
  pub example : M.Thing
  pub good : M.Good example

-- the first part stops
pub first_ends : {L M : Language} {c : ℕ} → Joint L c M → {text : List ℕ} {left : ℕ} → Stops L text left
    → Stops (Pairs L c M) text left
first_ends {L = L} {M = M} {c = c} j {text = text} {left = left} s =
    stops_behind [] L (Pairs L c M) (pair_first L M c j.precedes j.example j.good) text left s

-- the byte between doesn't come
pub joint_lacks : {L M : Language} {c : ℕ} → Joint L c M → {text : List ℕ} {a : L.Thing} {rest : List ℕ} {left : ℕ}
    → Reads L text a rest → (left ≡ length rest) × IsNot c rest → Stops (Pairs L c M) text left
joint_lacks {L = L} {M = M} {c = c} j {text = text} {a = a} {rest = rest} r n = subst (Stops (Pairs L c M) text)
    (sym n.0) (pair_between L M c j.clear j.precedes j.example j.good text a rest r n.1)

-- the second part stops
pub second_ends : {L M : Language} {c : ℕ} → Joint L c M → {text : List ℕ} {a : L.Thing} {next mid : List ℕ} {left : ℕ}
    → Reads L text a next → next ≡ c ∷ mid → Stops M mid left → Stops (Pairs L c M) text left
second_ends {L = L} {M = M} {c = c} j {text = text} {a = a} {next = next} {mid = mid} {left = left} r e s =
    stops_in (L.form a ++ c ∷ []) M (Pairs L c M) (pair_second L M c j.clear j.precedes a r.good) text mid left
    (pair_whole L c text a next mid r e) s

pub pairs_clear : (L M : Language) (c : ℕ) → Clear L → Precedes L c → Clear M → Clear (Pairs L c M)
pairs_clear L M c k p m = record {
  one = λ a b x y g h e f i.
      let first = k.one a.0 b.0 (c ∷ (M.form a.1 ++ x)) (c ∷ (M.form b.1 ++ y)) g.0 h.0 (p a.0 (M.form a.1 ++ x))
      (p b.0 (M.form b.1 ++ y))
      (sym (append_assoc (L.form a.0) (c ∷ M.form a.1) x) ∙ i ∙ append_assoc (L.form b.0) (c ∷ M.form b.1) y) in
      let second = m.one a.1 b.1 x y g.1 h.1 e f (tail_of first.1) in
      (ap (λ z. (z, a.1)) first.0 ∙ ap (λ z. (b.0, z)) second.0, second.1);
  nil = λ a. m.nil a.1;
  first = λ a d x y e. m.first a.1 d x y e;
}

pub joint_clear : {L M : Language} {c : ℕ} → Joint L c M → Clear M → Clear (Pairs L c M)
joint_clear {L = L} {M = M} {c = c} j m = pairs_clear L M c j.clear j.precedes m
