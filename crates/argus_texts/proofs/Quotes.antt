-- Texts between quotes, and where they stop.
use Rattle.std.proofs.Common.{◌≡◌, ◌≢◌, ℕ, Bool, true, false, ◌<◌, ◌≤◌, ◌+◌, ◌⊎◌, inl, inr, List, [], ◌∷◌, ◌++◌, length}
use Rattle.std.proofs.Common.{take, get_or, refl, sym, ap, ◌∙◌, subst, append-nil, append_assoc, arith}
use Rattle.std.proofs.lemmas.{Bool.Decides.eqb_tells, Str.IsUtf8-append, List.take_more}
use Rattle.std.specs.{Prelude.if◌then◌else◌, Str.IsUtf8}
use lib.Dec.{eqb}
use lib.Utf8
use Rattle.argus_texts.specs.{Language.{Reads, NoWay, Stops, First}, Languages.Quoted, Quotes.{IsSpecial, IsNoEscape}}
use Rattle.argus_texts.specs.Spelling.{escape, escaped}
use Rattle.argus_texts.proofs.{Lists.{tail_of, head_of}, Stops.Clear}

pub escaped-append : (a b : List ℕ) → escaped (a ++ b) ≡ escaped a ++ escaped b
escaped-append [] b = refl
escaped-append (c ∷ a) b =
    ap (λ x. escape c ++ x) (escaped-append a b) ∙ sym (append_assoc (escape c) (escaped a) (escaped b))

-- d stands for b behind a backslash
abbrev Escapes : ℕ → ℕ → Type 0
Escapes d b = ((d ≡ 34) × (b ≡ 34)) ⊎ (((d ≡ 92) × (b ≡ 92)) ⊎ ((d ≡ 110) × (b ≡ 10)))

-- how a byte is written
abbrev Written : ℕ → Type 0
Written b = ((d : ℕ) × Escapes d b × (escape b ≡ 92 ∷ d ∷ [])) ⊎ ((b ≢ 34) × (b ≢ 92) × (b ≢ 10) × (escape b ≡ b ∷ []))

written_by : (b : ℕ) → ((eqb b 34 ≡ true) × (b ≡ 34)) ⊎ ((eqb b 34 ≡ false) × (b ≢ 34))
    → ((eqb b 92 ≡ true) × (b ≡ 92)) ⊎ ((eqb b 92 ≡ false) × (b ≢ 92))
    → ((eqb b 10 ≡ true) × (b ≡ 10)) ⊎ ((eqb b 10 ≡ false) × (b ≢ 10)) → Written b
written_by b p q r = grind arith

written : (b : ℕ) → Written b
written b = written_by b (eqb_tells b 34) (eqb_tells b 92) (eqb_tells b 10)

same_escape : (d b c : ℕ) → Escapes d b → Escapes d c → b ≡ c
same_escape d b c p q = grind arith

one_written : (b c : ℕ) (u v : List ℕ) → Written b → Written c → escape b ++ u ≡ escape c ++ v → (b ≡ c) × (u ≡ v)
one_written b c u v (inl p) (inl q) e =
    let f : 92 ∷ p.0 ∷ u ≡ 92 ∷ q.0 ∷ v = sym (ap (λ x. x ++ u) p.2) ∙ e ∙ ap (λ x. x ++ v) q.2 in
    let d : p.0 ≡ q.0 = head_of (tail_of f) in
    (same_escape q.0 b c (subst (λ m. Escapes m b) d p.1) q.1, tail_of (tail_of f))
one_written b c u v (inl p) (inr q) e = grind (arith, head_of)
one_written b c u v (inr p) (inl q) e =
    let f : b ∷ u ≡ 92 ∷ q.0 ∷ v = sym (ap (λ x. x ++ u) p.3) ∙ e ∙ ap (λ x. x ++ v) q.2 in absurd (p.1 (head_of f))
one_written b c u v (inr p) (inr q) e =
    let f : b ∷ u ≡ c ∷ v = sym (ap (λ x. x ++ u) p.3) ∙ e ∙ ap (λ x. x ++ v) q.3 in (head_of f, tail_of f)

one_escape : (b c : ℕ) (u v : List ℕ) → escape b ++ u ≡ escape c ++ v → (b ≡ c) × (u ≡ v)
one_escape b c u v e = one_written b c u v (written b) (written c) e

-- what is written of a byte begins with neither a quote nor a line feed
no_quote_by : (c : ℕ) (v w : List ℕ) → Written c → 34 ∷ w ≡ escape c ++ v → ⊥
no_quote_by c v w p e = grind (arith, head_of)

no_feed_by : (c : ℕ) (v w : List ℕ) → Written c → 10 ∷ w ≡ escape c ++ v → ⊥
no_feed_by c v w p e = grind (arith, head_of)

no_nil_by : (c : ℕ) (v : List ℕ) → Written c → [] ≡ escape c ++ v → ⊥
no_nil_by c v p e = grind arith

-- behind a backslash comes one of three bytes
no_such : (d c : ℕ) → IsNoEscape d → Escapes d c → ⊥
no_such d c n p = grind arith

no_escape_by : (c : ℕ) (w v : List ℕ) → First IsNoEscape w → Written c → 92 ∷ w ≡ escape c ++ v → ⊥
no_escape_by c p v n q e = grind (arith, head_of, tail_of, no_such)

unescape : (a t x y : List ℕ) → escaped a ++ x ≡ escaped t ++ 34 ∷ y
    → (s : List ℕ) × (t ≡ a ++ s) × (x ≡ escaped s ++ 34 ∷ y)
unescape [] t x y e = (t, refl, e)
unescape (b ∷ a) [] x y e =
    absurd (no_quote_by b (escaped a ++ x) y (written b) (sym e ∙ append_assoc (escape b) (escaped a) x))
unescape (b ∷ a) (c ∷ t) x y e = grind (arith, one_escape, append_assoc, unescape a t x y)

-- the same of a whole form
unescape_form : (a t x r : List ℕ) → escaped a ++ x ≡ (escaped t ++ 34 ∷ []) ++ r
    → (s : List ℕ) × (t ≡ a ++ s) × (x ≡ escaped s ++ 34 ∷ r)
unescape_form a t x r e = unescape a t x r (e ∙ append_assoc (escaped t) (34 ∷ []) r)

none_left : (a t s x y : List ℕ) → t ≡ a ++ s → 34 ∷ x ≡ escaped s ++ 34 ∷ y → (a ≡ t) × (x ≡ y)
none_left a t [] x y p e = (sym (p ∙ append-nil a), tail_of e)
none_left a t (c ∷ s) x y p e =
    absurd (no_quote_by c (escaped s ++ 34 ∷ y) x (written c) (e ∙ append_assoc (escape c) (escaped s) (34 ∷ y)))

one_quoted : (a b x y : List ℕ) → (escaped a ++ 34 ∷ []) ++ x ≡ (escaped b ++ 34 ∷ []) ++ y → (a ≡ b) × (x ≡ y)
one_quoted a b x y e =
    let r = unescape_form a b (34 ∷ x) y (sym (append_assoc (escaped a) (34 ∷ []) x) ∙ e) in
    none_left a b r.0 x y r.1 r.2

pub quoted_clear : Clear Quoted
quoted_clear = record { one = λ a b x y g h p q e. one_quoted a b x y e; nil = λ a. tt; first = λ a c x y e. tt }

-- the text was read, and ends or has a line feed next
abbrev pub IsFeed : ℕ → Type 0
IsFeed c = c ≡ 10

no_feed_next : (s r : List ℕ) (c : ℕ) (more : List ℕ) → c ≡ 10 → c ∷ more ≡ escaped s ++ 34 ∷ r → ⊥
no_feed_next [] r c more f e = omega (arith, head_of e)
no_feed_next (d ∷ s) r c more f e = no_feed_by d (escaped s ++ 34 ∷ r) more (written d)
    (ap (λ m. m ∷ more) (sym f) ∙ e ∙ append_assoc (escape d) (escaped s) (34 ∷ r))

no_end_next : (s r : List ℕ) → [] ≡ escaped s ++ 34 ∷ r → ⊥
no_end_next [] r e = cc
no_end_next (d ∷ s) r e =
    no_nil_by d (escaped s ++ 34 ∷ r) (written d) (e ∙ append_assoc (escape d) (escaped s) (34 ∷ r))

feed_way : (a rest : List ℕ) → First IsFeed rest → NoWay Quoted (escaped a) rest
feed_way a [] f = λ s. let u = unescape_form a s.thing [] s.rest (append-nil (escaped a) ∙ s.reads.is) in
    no_end_next u.0 s.rest u.2
feed_way a (c ∷ rest) f = λ more s. let u = unescape_form a s.thing (c ∷ more) s.rest s.reads.is in
    no_feed_next u.0 s.rest c more f u.2

pub feed_stops : (a text rest : List ℕ) → IsUtf8 a → text ≡ escaped a ++ rest → First IsFeed rest
    → Stops Quoted text (length rest)
feed_stops a text rest g e f = record {
  front = escaped a;
  back = rest;
  whole = e;
  count = refl;
  more = 34 ∷ [];
  way = record { thing = a; good = g; is = refl };
  no_way = feed_way a rest f;
}

-- a backslash was read, and no escape comes
no_escape_next : (s r w : List ℕ) → First IsNoEscape w → 92 ∷ w ≡ escaped s ++ 34 ∷ r → ⊥
no_escape_next [] r w n e = omega (arith, head_of e)
no_escape_next (d ∷ s) r w n e =
    no_escape_by d w (escaped s ++ 34 ∷ r) n (written d) (e ∙ append_assoc (escape d) (escaped s) (34 ∷ r))

escape_way : (a rest : List ℕ) → First IsNoEscape rest → NoWay Quoted (escaped a ++ 92 ∷ []) rest
escape_way a [] n = λ s. let u = unescape_form a s.thing (92 ∷ []) s.rest s.reads.is in
    no_escape_next u.0 s.rest [] tt u.2
escape_way a (c ∷ rest) n = λ more s. let u =
    unescape_form a s.thing (92 ∷ c ∷ more) s.rest (sym (append_assoc (escaped a) (92 ∷ []) (c ∷ more)) ∙ s.reads.is) in
    no_escape_next u.0 s.rest (c ∷ more) n u.2

utf8_quote : IsUtf8 (34 ∷ [])
unfolding lib.Utf8.encode
utf8_quote = (34 ∷ [], (refl, refl))

pub escape_stops : (a text rest : List ℕ) → IsUtf8 a → text ≡ escaped a ++ 92 ∷ rest → First IsNoEscape rest
    → Stops Quoted text (length rest)
escape_stops a text rest g e n = record {
  front = escaped a ++ 92 ∷ [];
  back = rest;
  whole = e ∙ sym (append_assoc (escaped a) (92 ∷ []) rest);
  count = refl;
  more = 34 ∷ 34 ∷ [];
  way = record {
    thing = a ++ 34 ∷ [];
    good = IsUtf8-append a (34 ∷ []) g utf8_quote;
    is = append_assoc (escaped a) (92 ∷ []) (34 ∷ 34 ∷ []) ∙ sym (append_assoc (escaped a) (92 ∷ 34 ∷ []) (34 ∷ []))
        ∙ ap (λ x. x ++ 34 ∷ []) (sym (escaped-append a (34 ∷ [])));
  };
  no_way = escape_way a rest n;
}

-- one more byte that is written as it is
pub plain_step : (bs : List ℕ) (i : ℕ) → i < length bs → escaped (take i bs) ≡ take i bs
    → escape (get_or bs i 0) ≡ get_or bs i 0 ∷ [] → escaped (take (i + 1) bs) ≡ take (i + 1) bs
plain_step bs i h p q =
    let m : take (i + 1) bs ≡ take i bs ++ get_or bs i 0 ∷ [] = take_more bs i 0 h in
    ap escaped m ∙ escaped-append (take i bs) (get_or bs i 0 ∷ []) ∙ ap (λ x. x ++ (escape (get_or bs i 0) ++ [])) p
    ∙ ap (λ x. take i bs ++ x) (append-nil (escape (get_or bs i 0)) ∙ q) ∙ sym m

-- a plain piece was read
pub read_plain : (done all text rest plain others : List ℕ) → text ≡ escaped done ++ rest → rest ≡ plain ++ others
    → escaped plain ≡ plain → all ≡ done ++ plain → text ≡ escaped all ++ others
read_plain done all text rest plain others e w p a = grind (arith, append_assoc, escaped-append)

-- an escape was read
pub read_escape : (done all text others behind piece rest : List ℕ) → text ≡ escaped done ++ others
    → others ≡ 92 ∷ behind → 92 ∷ behind ≡ escaped piece ++ rest → all ≡ done ++ piece → text ≡ escaped all ++ rest
read_escape done all text others behind piece rest e o b a = grind (arith, append_assoc, escaped-append)

-- the closing quote comes
pub quoted_reads : (read text others rest : List ℕ) → IsUtf8 read → text ≡ escaped read ++ others → others ≡ 34 ∷ rest
    → Reads Quoted text read rest
quoted_reads read text others rest u e o = grind (arith, append_assoc)

-- what isn't ASCII isn't special
not_special : (c : ℕ) → 128 ≤ c → IsSpecial c → ⊥
not_special c h p = grind arith

pub ends_here : (x : List ℕ) → First (λ c. 128 ≤ c) x → First IsSpecial x → First IsFeed x
ends_here p h s = grind (arith, not_special)

feed_only : (c : ℕ) → c ≢ 34 → c ≢ 92 → IsSpecial c → c ≡ 10
feed_only c p q r = grind arith

pub feed_here : (x : List ℕ) (c : ℕ) (behind : List ℕ) → x ≡ c ∷ behind → c ≢ 34 → c ≢ 92 → First IsSpecial x
    → First IsFeed x
feed_here x c behind e p q s = subst (First IsFeed) (sym e) (feed_only c p q (subst (First IsSpecial) e s))
