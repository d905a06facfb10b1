-- The lines of entries and openings are UTF-8, without line feeds.
use Rattle.std.proofs.lemmas.{Bool.{and_parts, cases_eq, cases_lt, eqb-false}, Fmt.decimal_by_steps, Str.IsUtf8-append}
use Rattle.std.proofs.{lemmas.Str.{IsUtf8-encode, IsUtf8-nil, encode_ascii, inside_one}, Common.{◌≡◌, ◌≢◌, ℕ, zero}}
use Rattle.std.proofs.Common.{suc, ◌+◌, ◌-◌, ◌%◌, ◌<◌, ◌≤◌, ◌^◌, ◌&&◌, Bool, true, false, cond, List, [], ◌∷◌, ◌++◌}
use Rattle.std.proofs.Common.{length, get_or, inl, inr, refl, sym, ap₂, subst, arith, append-nil, ltb-true, nat_lt}
use Rattle.std.specs.{Fmt.{decimal, signed_decimal}, List.list_all, Str.IsUtf8, Prelude.{None, Option, Some, codes}}
use Rattle.std.specs.Prelude.{negsuc, pos, ℤ}
use lib.Utf8.{scalar, scalars, encode, encodes, low_scalar}
use Rattle.argus_contents.specs.{Answer.PlainAnswer, Change.PlainChange, Content.PlainContent, Shape.PlainShape}
use Rattle.argus_contents.specs.{Name.{is_name, is_name_byte}, Ty.{PlainFields, PlainTy}, declared.query.Query.Query}
use Rattle.argus_contents.specs.{declared.signal.Signal.Signal, Value.{PlainValue, PlainValues, listed}}
use Rattle.argus_entries.specs.{Call.PlainCall, Entry.PlainEntry, OperationSpelling.{change_spelling, query_spelling}}
use Rattle.argus_entries.specs.EntrySpelling.{answer_spelling, call_spelling, entry_spelling, place_spelling}
use Rattle.argus_entries.specs.{EntrySpelling.{refusal_name, reply_spelling, signal_spelling}, Reply.PlainReply}
use Rattle.argus_entries.specs.Laws.{AnswerWithin, CallWithin, ChangeWithin, QueryWithin, ReplyWithin}
use Rattle.argus_entries.specs.declared.refusal.Refusal.{Refusal}
use Rattle.argus_reading.specs.OpeningLanguages.{FoldedLines, IsReadableContent, ObjectLines, content_text}
use Rattle.argus_reading.specs.Line.{IsReadable}
use Rattle.argus_texts.specs.{ContentSpelling.{PartsWithin, content_spelling}, ShapeSpelling.{ty_spelling, AreNamed}}
use Rattle.argus_texts.specs.ShapeSpelling.{HasNames, IsNamed, names_behind, names_inside, shape_spelling}
use Rattle.argus_texts.specs.Spelling.{AllWithin, IsI64, Within, behind, escape, escaped, inside, spelling}
use Rattle.argus_texts.proofs.Quotes.{escaped-append}
use Rattle.argus_resume.specs.Taking.{HasNoFeed}
use Rattle.argus_resume.proofs.Feeds.{no_feed-append}
use Rattle.argus_contents.specs.Answer as answer
use Rattle.argus_contents.specs.Change as change
use Rattle.argus_contents.specs.Content as content
use Rattle.argus_contents.specs.Shape as shape
use Rattle.argus_contents.specs.Ty as ty
use Rattle.argus_contents.specs.Value as value
use Rattle.argus_contents.specs.declared.query.Query.TheVariants as query
use Rattle.argus_contents.specs.declared.signal.Signal.TheVariants as signal
use Rattle.argus_entries.specs.Call as call
use Rattle.argus_entries.specs.Reply as reply
use Rattle.argus_entries.specs.declared.refusal.Refusal.TheVariants as refusal

-- without a line feed, and UTF-8
abbrev pub IsClean : List ℕ → Type 0
IsClean x = HasNoFeed x × IsUtf8 x

pub clean-append : (x y : List ℕ) → IsClean x → IsClean y → IsClean (x ++ y)
clean-append x y a b = (no_feed-append x y a.0 b.0, IsUtf8-append x y a.1 b.1)

-- WORDS

-- ASCII behind the line feed
abbrev is_plain : ℕ → Bool
is_plain b = nat_lt 10 b && nat_lt b 128

ascii_then : (b : ℕ) (bs : List ℕ) → b < 128 → IsUtf8 bs → IsUtf8 (b ∷ bs)
ascii_then b bs small u =
    IsUtf8-append (b ∷ []) bs (subst IsUtf8 (encode_ascii b small) (IsUtf8-encode b (low_scalar b (omega arith)))) u

byte_clean : (b : ℕ) (bs : List ℕ) → 10 < b → b < 128 → IsClean bs → IsClean (b ∷ bs)
byte_clean b bs low high c = ((λ e. omega (arith, e, low), c.0), ascii_then b bs high c.1)

plain_clean : (b : ℕ) (bs : List ℕ) → is_plain b ≡ true → IsClean bs → IsClean (b ∷ bs)
plain_clean b bs e c = let p = and_parts _ _ e in byte_clean b bs (ltb-true _ _ p.0) (ltb-true _ _ p.1) c

pub word_clean : (bs : List ℕ) → list_all is_plain bs ≡ true → IsClean bs
word_clean [] e = (tt, IsUtf8-nil)
word_clean (b ∷ bs) e = let p = and_parts _ _ e in plain_clean b bs p.0 (word_clean bs p.1)

-- NUMBERS

pub number_clean : (n : ℕ) → n < 2 ^ 64 → IsClean (decimal n)
number_clean n h = decimal_by_steps (λ k ds. IsClean ds)
    (λ k l. byte_clean (48 + k) [] (omega arith) (omega (arith, l)) (tt, IsUtf8-nil))
    (λ k ds l r. clean-append ds ((48 + k % 10) ∷ []) r
    (byte_clean (48 + k % 10) [] (omega arith) (omega arith) (tt, IsUtf8-nil))) n h

pub int_clean : (z : ℤ) → IsI64 z → IsClean (signed_decimal z)
int_clean (pos n) h = number_clean n (omega (arith, h))
int_clean (negsuc n) h = plain_clean 45 (decimal (suc n)) refl (number_clean (suc n) (omega (arith, h)))

-- TEXTS

escape_parts : (b : ℕ) (p q r : Bool) → (r ≡ false → b ≢ 10)
    → HasNoFeed (cond p (92 ∷ 34 ∷ []) (cond q (92 ∷ 92 ∷ []) (cond r (92 ∷ 110 ∷ []) (b ∷ []))))
escape_parts b p q r h = grind arith

escaped_no_feed : (t : List ℕ) → HasNoFeed (escaped t)
escaped_no_feed [] = tt
escaped_no_feed (b ∷ t) = grind (arith, no_feed-append, escape_parts, eqb-false, escaped_no_feed t)

abbrev are_ascii : List ℕ → Bool
are_ascii [] = true
are_ascii (b ∷ bs) = nat_lt b 128 && are_ascii bs

ascii_utf8 : (bs : List ℕ) → are_ascii bs ≡ true → IsUtf8 bs
ascii_utf8 [] e = IsUtf8-nil
ascii_utf8 (b ∷ bs) e = let p = and_parts _ _ e in ascii_then b bs (ltb-true _ _ p.0) (ascii_utf8 bs p.1)

abbrev escapes_below : ℕ → Bool
escapes_below zero = true
escapes_below (suc n) = are_ascii (escape n) && escapes_below n

escape_below : (n : ℕ) → escapes_below n ≡ true → (b : ℕ) → b < n → are_ascii (escape b) ≡ true
escape_below zero e b h = absurd (omega arith)
escape_below (suc n) e b h = grind (arith, and_parts, cases_eq, escape_below n)

all_ascii : escapes_below 128 ≡ true
all_ascii = refl

escape_high : (b : ℕ) → 128 ≤ b → escape b ≡ b ∷ []
escape_high b h = grind arith

escaped_high : (bs : List ℕ) → ((k : ℕ) → k < length bs → 128 ≤ get_or bs k 0) → escaped bs ≡ bs
escaped_high [] h = refl
escaped_high (b ∷ bs) h = ap₂ (λ (x y : List ℕ). x ++ y) (escape_high b (h 0 (omega arith)))
    (escaped_high bs (λ k below. h (suc k) (omega (arith, below))))

one_char : (c : ℕ) → scalar c ≡ true → IsUtf8 (escaped (encode c))
one_char c ok = elim (cases_lt c 128) [
  | inl small ↦ rw (encode_ascii c small, append-nil) (ascii_utf8 _ (escape_below 128 all_ascii c small))
  | inr big ↦
      let high : (k : ℕ) → k < length (encode c) → 128 ≤ get_or (encode c) k 0 = λ k below.
      elim (cases_lt (get_or (encode c) k 0) 128) [
        | inl low ↦ absurd (omega (arith, inside_one c [] (encode c) k (sym (append-nil _)) below low))
        | inr h ↦ h
      ] in
      subst IsUtf8 (sym (escaped_high (encode c) high)) (IsUtf8-encode c ok)
]

all_chars : (cs : List ℕ) → scalars cs ≡ true → IsUtf8 (escaped (encodes cs))
all_chars [] e = IsUtf8-nil
all_chars (c ∷ cs) e =
    let p = and_parts _ _ e in
    subst IsUtf8 (sym (escaped-append (encode c) (encodes cs))) (IsUtf8-append _ _ (one_char c p.0) (all_chars cs p.1))

text_clean : (t : List ℕ) → IsUtf8 t → IsClean (escaped t)
text_clean t u = (escaped_no_feed t, subst (λ l. IsUtf8 (escaped l)) u.1.1 (all_chars u.0 u.1.0))

-- VALUES AND CONTENTS

end_clean : (b : ℕ) → 10 < b → b < 128 → IsClean (b ∷ [])
end_clean b low high = byte_clean b [] low high (tt, IsUtf8-nil)

choice_clean : (t : ℕ) (v : PlainValue) → t < 2 ^ 64 → IsClean (spelling v)
    → IsClean (60 ∷ (decimal t ++ 58 ∷ (spelling v ++ 62 ∷ [])))
choice_clean t v h c = plain_clean 60 (decimal t ++ 58 ∷ (spelling v ++ 62 ∷ [])) refl
    (clean-append (decimal t) (58 ∷ (spelling v ++ 62 ∷ [])) (number_clean t h)
    (plain_clean 58 (spelling v ++ 62 ∷ []) refl
    (clean-append (spelling v) (62 ∷ []) c (end_clean 62 (omega arith) (omega arith)))))

mutual
  value_clean : (k : ℕ) (v : PlainValue) → Within k v → IsClean (spelling v)
  value_clean k value.null h = word_clean (codes "null") refl
  value_clean k (value.bool true) h = word_clean (codes "true") refl
  value_clean k (value.bool false) h = word_clean (codes "false") refl
  value_clean k (value.int n) h = int_clean n h.1
  value_clean k (value.text t) h = plain_clean 34 (escaped t ++ 34 ∷ []) refl
      (clean-append (escaped t) (34 ∷ []) (text_clean t h.1) (end_clean 34 (omega arith) (omega arith)))
  value_clean k (value.atomic o) h = plain_clean 64 (decimal o) refl (number_clean o (omega (arith, h.1)))
  value_clean k (value.sequence vs) h = plain_clean 91 (inside 93 vs) refl
      (inside_clean (k - 1) 93 vs (omega arith) (omega arith) h.1)
  value_clean k (value.fields vs) h = plain_clean 123 (inside 125 vs) refl
      (inside_clean (k - 1) 125 vs (omega arith) (omega arith) h.1)
  value_clean k (value.choice t v) h = choice_clean t v (omega (arith, h.1)) (value_clean (k - 1) v h.2)

  inside_clean : (k close : ℕ) (vs : PlainValues) → 10 < close → close < 128 → AllWithin k vs
      → IsClean (inside close vs)
  inside_clean k close value.none low high h = end_clean close low high
  inside_clean k close (value.more v vs) low high h =
      clean-append (spelling v) (behind close vs) (value_clean k v h.0) (behind_clean k close vs low high h.1)

  behind_clean : (k close : ℕ) (vs : PlainValues) → 10 < close → close < 128 → AllWithin k vs
      → IsClean (behind close vs)
  behind_clean k close value.none low high h = end_clean close low high
  behind_clean k close (value.more v vs) low high h = plain_clean 44 (spelling v ++ behind close vs) refl
      (clean-append (spelling v) (behind close vs) (value_clean k v h.0) (behind_clean k close vs low high h.1))

content_clean : (k : ℕ) (c : PlainContent) → PartsWithin k c → IsClean (content_spelling c)
content_clean k (content.rec vs) h = plain_clean 123 (inside 125 (listed vs)) refl
    (inside_clean k 125 (listed vs) (omega arith) (omega arith) h)
content_clean k (content.arr low vs) h =
    clean-append (signed_decimal low) (91 ∷ inside 93 (listed vs)) (int_clean low h.0)
    (plain_clean 91 (inside 93 (listed vs)) refl (inside_clean k 93 (listed vs) (omega arith) (omega arith) h.1))
content_clean k (content.var t v) h = choice_clean t v (omega (arith, h.0)) (value_clean k v h.1)

-- SHAPES

name_byte : (b : ℕ) → is_name_byte b ≡ true → (10 < b) × (b < 128)
name_byte b h = (grind (arith, h), grind (arith, h))

name_bytes : (bs : List ℕ) → list_all is_name_byte bs ≡ true → IsClean bs
name_bytes [] e = (tt, IsUtf8-nil)
name_bytes (b ∷ bs) e =
    let p = and_parts _ _ e in
    let q = name_byte b p.0 in
    byte_clean b bs q.0 q.1 (name_bytes bs p.1)

name_clean : (name : List ℕ) → is_name name ≡ true → IsClean name
name_clean name h = name_bytes name (and_parts _ _ h).1

mutual
  ty_clean : (t : PlainTy) → IsNamed t → IsClean (ty_spelling t)
  ty_clean (ty.sequence x) h =
      clean-append (codes "sequence[") (ty_spelling x ++ 93 ∷ []) (word_clean (codes "sequence[") refl)
      (clean-append (ty_spelling x) (93 ∷ []) (ty_clean x h) (end_clean 93 (omega arith) (omega arith)))
  ty_clean (ty.fields fs) h =
      clean-append (codes "struct[") (names_inside fs) (word_clean (codes "struct[") refl) (names_clean fs h)
  ty_clean (ty.choice fs) h =
      clean-append (codes "oneof[") (names_inside fs) (word_clean (codes "oneof[") refl) (names_clean fs h)
  ty_clean t h = word_clean (ty_spelling t) refl

  names_clean : (fs : PlainFields) → AreNamed fs → IsClean (names_inside fs)
  names_clean ty.none h = end_clean 93 (omega arith) (omega arith)
  names_clean (ty.more name x fs) h = clean-append name (58 ∷ (ty_spelling x ++ names_behind fs)) (name_clean name h.0)
      (plain_clean 58 (ty_spelling x ++ names_behind fs) refl
      (clean-append (ty_spelling x) (names_behind fs) (ty_clean x h.1) (behind_names_clean fs h.2)))

  behind_names_clean : (fs : PlainFields) → AreNamed fs → IsClean (names_behind fs)
  behind_names_clean ty.none h = end_clean 93 (omega arith) (omega arith)
  behind_names_clean (ty.more name x fs) h = plain_clean 44 (name ++ 58 ∷ (ty_spelling x ++ names_behind fs)) refl
      (clean-append name (58 ∷ (ty_spelling x ++ names_behind fs)) (name_clean name h.0)
      (plain_clean 58 (ty_spelling x ++ names_behind fs) refl
      (clean-append (ty_spelling x) (names_behind fs) (ty_clean x h.1) (behind_names_clean fs h.2))))

shape_clean : (s : PlainShape) → HasNames s → IsClean (shape_spelling s)
shape_clean (shape.rec fs) h =
    clean-append (codes "atomic_record[") (names_inside fs) (word_clean (codes "atomic_record[") refl)
    (names_clean fs h)
shape_clean (shape.arr x) h =
    clean-append (codes "atomic_array[") (ty_spelling x ++ 93 ∷ []) (word_clean (codes "atomic_array[") refl)
    (clean-append (ty_spelling x) (93 ∷ []) (ty_clean x h) (end_clean 93 (omega arith) (omega arith)))
shape_clean (shape.var fs) h =
    clean-append (codes "atomic_variant[") (names_inside fs) (word_clean (codes "atomic_variant[") refl)
    (names_clean fs h)

-- CALLS AND REPLIES

-- a word, and something behind it
worded : (word x : List ℕ) → list_all is_plain word ≡ true → IsClean x → IsClean (word ++ x)
worded word x e c = clean-append word x (word_clean word e) c

small_clean : (n k : ℕ) → n < k → k ≤ 2 ^ 64 → IsClean (decimal n)
small_clean n k h l = number_clean n (omega (arith, h, l))

query_clean : (q : Query) → QueryWithin q → IsClean (query_spelling q)
query_clean (query.Field i) h = worded (codes "field ") (decimal i) refl (small_clean i 256 h (omega arith))
query_clean (query.Fetch i) h = worded (codes "fetch ") (signed_decimal i) refl (int_clean i h)
query_clean (query.IsTag t) h = worded (codes "is_tag ") (decimal t) refl (small_clean t 256 h (omega arith))
query_clean (query.TagValue t) h = worded (codes "tag_value ") (decimal t) refl (small_clean t 256 h (omega arith))
query_clean q h = word_clean (query_spelling q) refl

-- a word and a part, a blank, and another part
paired : (word x y : List ℕ) → list_all is_plain word ≡ true → IsClean x → IsClean y
    → IsClean (word ++ x ++ codes " " ++ y)
paired word x y e a b = clean-append (word ++ x ++ codes " ") y
    (clean-append (word ++ x) (codes " ") (worded word x e a) (word_clean (codes " ") refl)) b

change_clean : (k : ℕ) (c : PlainChange) → ChangeWithin k c → IsClean (change_spelling c)
change_clean k (change.create c) h = worded (codes "create ") (content_spelling c) refl (content_clean k c h)
change_clean k (change.set_field i v) h =
    paired (codes "set_field ") (decimal i) (spelling v) refl (small_clean i 256 h.0 (omega arith))
    (value_clean k v h.1)
change_clean k (change.store i v) h =
    paired (codes "store ") (signed_decimal i) (spelling v) refl (int_clean i h.0) (value_clean k v h.1)
change_clean k (change.addh v) h = worded (codes "addh ") (spelling v) refl (value_clean k v h)
change_clean k (change.addl v) h = worded (codes "addl ") (spelling v) refl (value_clean k v h)
change_clean k (change.set_low i) h = worded (codes "set_low ") (signed_decimal i) refl (int_clean i h)
change_clean k (change.trim i n) h =
    paired (codes "trim ") (signed_decimal i) (signed_decimal n) refl (int_clean i h.0) (int_clean n h.1)
change_clean k (change.change_tag t v) h =
    paired (codes "change_tag ") (decimal t) (spelling v) refl (small_clean t 256 h.0 (omega arith))
    (value_clean k v h.1)
change_clean k c h = word_clean (change_spelling c) refl

place_clean : (word : List ℕ) (a o : ℕ) → list_all is_plain word ≡ true → a < 2 ^ 32 → o < 2 ^ 32
    → IsClean (place_spelling word a o)
place_clean word a o e g h = clean-append (word ++ decimal a ++ codes " o") (decimal o)
    (clean-append (word ++ decimal a) (codes " o")
    (worded word (decimal a) e (number_clean a (omega (arith, g)))) (word_clean (codes " o") refl))
    (number_clean o (omega (arith, h)))

id_clean : (word : List ℕ) (a : ℕ) → list_all is_plain word ≡ true → a < 2 ^ 32 → IsClean (word ++ decimal a)
id_clean word a e h = worded word (decimal a) e (number_clean a (omega (arith, h)))

call_clean : (k : ℕ) (c : PlainCall) → CallWithin k c → IsClean (call_spelling c)
call_clean k (call.declare s) h = worded (codes "declare ") (shape_spelling s) refl (shape_clean s h)
call_clean k call.begin_top h = word_clean (codes "begin_top") refl
call_clean k (call.begin_sub a) h = id_clean (codes "begin_sub a") a refl h
call_clean k (call.begin_nested a) h = id_clean (codes "begin_nested a") a refl h
call_clean k (call.commit a) h = id_clean (codes "commit a") a refl h
call_clean k (call.abort a) h = id_clean (codes "abort a") a refl h
call_clean k (call.abort_others a) h = id_clean (codes "abort_others a") a refl h
call_clean k (call.ask a o q) h = clean-append (place_spelling (codes "ask a") a o ++ codes " ") (query_spelling q)
    (clean-append (place_spelling (codes "ask a") a o) (codes " ") (place_clean (codes "ask a") a o refl h.0 h.1)
    (word_clean (codes " ") refl)) (query_clean q h.2)
call_clean k (call.alter a o c) h = clean-append (place_spelling (codes "alter a") a o ++ codes " ") (change_spelling c)
    (clean-append (place_spelling (codes "alter a") a o) (codes " ") (place_clean (codes "alter a") a o refl h.0 h.1)
    (word_clean (codes " ") refl)) (change_clean k c h.2)
call_clean k (call.test_read a o) h = place_clean (codes "test_read a") a o refl h.0 h.1
call_clean k (call.test_write a o) h = place_clean (codes "test_write a") a o refl h.0 h.1

signal_clean : (s : Signal) → IsClean (signal_spelling s)
signal_clean signal.Absent = word_clean (codes "signal absent") refl
signal_clean s = word_clean (signal_spelling s) refl

answer_clean : (k : ℕ) (a : PlainAnswer) → AnswerWithin k a → IsClean (answer_spelling a)
answer_clean k answer.done h = word_clean (codes "done") refl
answer_clean k (answer.val v) h = worded (codes "val ") (spelling v) refl (value_clean k v h)
answer_clean k (answer.num n) h = worded (codes "num ") (signed_decimal n) refl (int_clean n h)
answer_clean k (answer.flag true) h = word_clean (codes "flag true") refl
answer_clean k (answer.flag false) h = word_clean (codes "flag false") refl
answer_clean k (answer.body c) h = worded (codes "body ") (content_spelling c) refl (content_clean k c h)
answer_clean k (answer.signal s) h = signal_clean s

refusal_clean : (r : Refusal) → IsClean (refusal_name r)
refusal_clean refusal.NoAction = word_clean (codes "NoAction") refl
refusal_clean r = word_clean (refusal_name r) refl

reply_clean : (k : ℕ) (r : PlainReply) → ReplyWithin k r → IsClean (reply_spelling r)
reply_clean k (reply.object o) h = id_clean (codes "o") o refl h
reply_clean k (reply.begun a) h = id_clean (codes "a") a refl h
reply_clean k (reply.answered a) h = answer_clean k a h
reply_clean k (reply.refused r) h = worded (codes "refused ") (refusal_name r) refl (refusal_clean r)

-- LINES

pub entry_clean : (n : ℕ) (e : PlainEntry) → n < 2 ^ 64 → IsReadable e → IsClean (entry_spelling n e)
entry_clean n e h r =
    let number = number_clean n h in
    let call = call_clean 16 e.call r.0.0 in
    let reply = reply_clean 16 e.reply r.1 in
    clean-append (decimal n ++ codes " " ++ call_spelling e.call ++ codes " -> ") (reply_spelling e.reply)
    (clean-append (decimal n ++ codes " " ++ call_spelling e.call) (codes " -> ")
    (clean-append (decimal n ++ codes " ") (call_spelling e.call)
    (clean-append (decimal n) (codes " ") number (word_clean (codes " ") refl)) call)
    (word_clean (codes " -> ") refl)) reply

option_clean : (c : Option PlainContent) → IsReadableContent c → IsClean (content_text c)
option_clean None h = word_clean (codes "absent") refl
option_clean (Some c) h = content_clean 16 c h

pub object_clean : (p : ObjectLines.Thing) → ObjectLines.Good p → IsClean (codes "opening " ++ ObjectLines.form p)
object_clean (o, (s, c)) g = worded (codes "opening ") (ObjectLines.form (o, (s, c))) refl
    (clean-append (codes "o" ++ decimal o) (32 ∷ (shape_spelling s ++ 32 ∷ content_text c))
    (worded (codes "o") (decimal o) refl (number_clean o (omega (arith, g.0.1))))
    (plain_clean 32 (shape_spelling s ++ 32 ∷ content_text c) refl
    (clean-append (shape_spelling s) (32 ∷ content_text c) (shape_clean s g.1.0.named)
    (plain_clean 32 (content_text c) refl (option_clean c g.1.1)))))

pub folded_clean : (p : FoldedLines.Thing) → FoldedLines.Good p → IsClean (codes "opening " ++ FoldedLines.form p)
folded_clean (n, m) g = worded (codes "opening ") (FoldedLines.form (n, m)) refl
    (clean-append (codes "entries " ++ decimal n) (32 ∷ (codes "actions " ++ decimal m))
    (worded (codes "entries ") (decimal n) refl (number_clean n (omega (arith, g.0.1))))
    (plain_clean 32 (codes "actions " ++ decimal m) refl
    (worded (codes "actions ") (decimal m) refl (number_clean m (omega (arith, g.1.1))))))
