-- A line tells its number, its call and its reply.
use Rattle.std.proofs.Common.{List, [], ap, append_assoc, arith, inl, refl, sym, true, ℕ, ◌++◌, ◌<◌, ◌^◌, ◌∙◌, ◌∷◌, ◌≡◌}
use Rattle.std.{proofs.lemmas.Bool.{Decides.nat_tests, false≢true}, specs.{Fmt.decimal, Prelude.{codes, ◌==◌}}}
use Rattle.argus_contents.specs.Answer.{PlainAnswer}
use Rattle.argus_texts.{specs.{ContentSpelling.content_spelling, Languages.NotDigit}, proofs.Contents.one_content}
use Rattle.argus_texts.proofs.{Digits.one_decimal, Lists.{cancel, tail_of}, ShapeForms.one_shape}
use Rattle.argus_entries.specs.{Call.PlainCall, Entry.PlainEntry, OperationSpelling.{change_spelling, query_spelling}}
use Rattle.argus_entries.specs.EntrySpelling.{answer_spelling, call_spelling, entry_spelling, place_spelling}
use Rattle.argus_entries.specs.{EntrySpelling.reply_spelling, Reply.PlainReply, Laws.{AnswerWithin, CallWithin}}
use Rattle.argus_entries.{specs.Laws.{EntryWithin, ReplyWithin}, proofs.FirstWords.{answer_kind, call_kind, flag_at}}
use Rattle.argus_entries.proofs.FirstWords.{flag_back, one_answer_kind, one_call_kind, one_reply_kind, refusal_at}
use Rattle.argus_entries.proofs.{FirstWords.{refusal_back, reply_kind, signal_at, signal_back}, Operations.behind_word}
use Rattle.argus_entries.proofs.Operations.{four_pieces, one_change, one_int, one_query, one_value, wide}
use Rattle.argus_contents.specs.Answer as answer
use Rattle.argus_entries.specs.Call as call
use Rattle.argus_entries.specs.Reply as reply

-- an action and an object behind a word
one_place : (w : List ℕ) (a o b p : ℕ) (x y : List ℕ) → (a < 2 ^ 32) × (o < 2 ^ 32) → (b < 2 ^ 32) × (p < 2 ^ 32)
    → NotDigit x → NotDigit y
    → place_spelling w a o ++ x ≡ place_spelling w b p ++ y → (a ≡ b) × ((o ≡ p) × (x ≡ y))
one_place w a o b p x y s t nx ny e =
    let after = λ (n m : ℕ) (z : List ℕ). decimal n ++ 32 ∷ 111 ∷ (decimal m ++ z) in
    let f = cancel w (after a o x) (after b p y) (sym (four_pieces w (decimal a) (codes " o") (decimal o) x) ∙ e
    ∙ four_pieces w (decimal b) (codes " o") (decimal p) y) in
    let r = one_decimal a b (32 ∷ 111 ∷ (decimal o ++ x)) (32 ∷ 111 ∷ (decimal p ++ y)) (wide a s.0) (wide b t.0)
    (inl (omega arith)) (inl (omega arith)) f in
    let q = one_decimal o p x y (wide o s.1) (wide p t.1) nx ny (tail_of (tail_of r.1)) in
    (r.0, (q.0, q.1))

three_pieces : (a b c x : List ℕ) → a ++ b ++ c ++ x ≡ a ++ (b ++ (c ++ x))
three_pieces a b c x = simp append_assoc

one_number : (w : List ℕ) (m n : ℕ) (x y : List ℕ) → m < 2 ^ 32 → n < 2 ^ 32 → NotDigit x → NotDigit y
    → (w ++ decimal m) ++ x ≡ (w ++ decimal n) ++ y → (m ≡ n) × (x ≡ y)
one_number w m n x y a b nx ny e =
    one_decimal m n x y (wide m a) (wide n b) nx ny (behind_word w (decimal m) (decimal n) x y e)

-- an action, an object and what stands behind a blank
one_access : (w : List ℕ) (m o n p : ℕ) (s t x y : List ℕ) → (m < 2 ^ 32) × (o < 2 ^ 32) → (n < 2 ^ 32) × (p < 2 ^ 32)
    → (place_spelling w m o ++ codes " " ++ s) ++ x ≡ (place_spelling w n p ++ codes " " ++ t) ++ y
    → (m ≡ n) × ((o ≡ p) × (s ++ x ≡ t ++ y))
one_access w m o n p s t x y a b e =
    grind (arith, nat_tests, three_pieces, one_place w m o n p (32 ∷ (s ++ x)) (32 ∷ (t ++ y)) a b, tail_of)

call_told : (k : ℕ) (c d : PlainCall) (x y : List ℕ) → CallWithin k c → CallWithin k d → NotDigit x → NotDigit y
    → (call_kind c == call_kind d) ≡ true → call_spelling c ++ x ≡ call_spelling d ++ y → (c ≡ d) × (x ≡ y)
call_told k (call.declare s) (call.declare t) x y a b nx ny q e = grind (arith, nat_tests, one_shape, cancel)
call_told k call.begin_top call.begin_top x y a b nx ny q e = (refl, cancel (codes "begin_top") x y e)
call_told k (call.begin_sub m) (call.begin_sub n) x y a b nx ny q e =
    grind (arith, one_number (codes "begin_sub a") m n x y a b nx ny e)
call_told k (call.begin_nested m) (call.begin_nested n) x y a b nx ny q e =
    grind (arith, one_number (codes "begin_nested a") m n x y a b nx ny e)
call_told k (call.commit m) (call.commit n) x y a b nx ny q e =
    grind (arith, one_number (codes "commit a") m n x y a b nx ny e)
call_told k (call.abort m) (call.abort n) x y a b nx ny q e =
    grind (arith, one_number (codes "abort a") m n x y a b nx ny e)
call_told k (call.abort_others m) (call.abort_others n) x y a b nx ny q e =
    grind (arith, one_number (codes "abort_others a") m n x y a b nx ny e)
call_told k (call.ask m o u) (call.ask n p v) x y a b nx ny q e =
    let r = one_access (codes "ask a") m o n p (query_spelling u) (query_spelling v) x y (a.0, a.1) (b.0, b.1) e in
    grind (arith, one_query u v x y a.2 b.2 nx ny r.1.1)
call_told k (call.alter m o u) (call.alter n p v) x y a b nx ny q e =
    let r = one_access (codes "alter a") m o n p (change_spelling u) (change_spelling v) x y (a.0, a.1) (b.0, b.1) e in
    grind (arith, one_change k u v x y a.2 b.2 nx ny r.1.1)
call_told k (call.test_read m o) (call.test_read n p) x y a b nx ny q e =
    grind (arith, one_place (codes "test_read a") m o n p x y a b nx ny e)
call_told k (call.test_write m o) (call.test_write n p) x y a b nx ny q e =
    grind (arith, one_place (codes "test_write a") m o n p x y a b nx ny e)
call_told k _ _ x y a b nx ny q e = absurd (false≢true q)

one_call : (k : ℕ) (c d : PlainCall) (x y : List ℕ) → CallWithin k c → CallWithin k d → NotDigit x → NotDigit y
    → call_spelling c ++ x ≡ call_spelling d ++ y → (c ≡ d) × (x ≡ y)
one_call k c d x y a b nx ny e = grind (arith, nat_tests, call_told, one_call_kind)

-- the same texts, with nothing behind them
ended : (s t : List ℕ) → s ≡ t → s ++ [] ≡ t ++ []
ended s t e = ap (λ u. u ++ []) e

answer_told : (k : ℕ) (a b : PlainAnswer) → AnswerWithin k a → AnswerWithin k b
    → (answer_kind a == answer_kind b) ≡ true → answer_spelling a ≡ answer_spelling b → a ≡ b
answer_told k answer.done answer.done s t q e = refl
answer_told k (answer.val v) (answer.val w) s t q e = grind (arith, nat_tests, one_value k v w [] [] s t, ended, cancel)
answer_told k (answer.num m) (answer.num n) s t q e = grind (arith, nat_tests, one_int m n [] [] s t, ended, cancel)
answer_told k (answer.flag p) (answer.flag r) s t q e = grind (arith, nat_tests, flag_back, flag_at, ended)
answer_told k (answer.body c) (answer.body d) s t q e =
    ap answer.body (one_content k c d [] [] s t (ended (content_spelling c) (content_spelling d)
    (cancel (codes "body ") (content_spelling c) (content_spelling d) e))).0
answer_told k (answer.signal r) (answer.signal u) s t q e = grind (arith, nat_tests, signal_back, signal_at, ended)
answer_told k _ _ s t q e = absurd (false≢true q)

one_answer : (k : ℕ) (a b : PlainAnswer) → AnswerWithin k a → AnswerWithin k b → answer_spelling a ≡ answer_spelling b
    → a ≡ b
one_answer k a b s t e = grind (arith, nat_tests, answer_told, one_answer_kind, ended)

reply_told : (k : ℕ) (r s : PlainReply) → ReplyWithin k r → ReplyWithin k s → (reply_kind r == reply_kind s) ≡ true
    → reply_spelling r ≡ reply_spelling s → r ≡ s
reply_told k (reply.object m) (reply.object n) a b q e =
    ap reply.object (one_number (codes "o") m n [] [] a b tt tt
    (ended (codes "o" ++ decimal m) (codes "o" ++ decimal n) e)).0
reply_told k (reply.begun m) (reply.begun n) a b q e = ap reply.begun
    (one_number (codes "a") m n [] [] a b tt tt (ended (codes "a" ++ decimal m) (codes "a" ++ decimal n) e)).0
reply_told k (reply.answered m) (reply.answered n) a b q e = ap reply.answered (one_answer k m n a b e)
reply_told k (reply.refused m) (reply.refused n) a b q e =
    grind (arith, nat_tests, cancel, refusal_back, refusal_at, ended)
reply_told k _ _ a b q e = absurd (false≢true q)

one_reply : (k : ℕ) (r s : PlainReply) → ReplyWithin k r → ReplyWithin k s → reply_spelling r ≡ reply_spelling s → r ≡ s
one_reply k r s a b e = grind (arith, nat_tests, reply_told, one_reply_kind, ended)

pub one_line : (k m n : ℕ) (d e : PlainEntry) → m < 2 ^ 64 → n < 2 ^ 64 → EntryWithin k d → EntryWithin k e
    → entry_spelling m d ≡ entry_spelling n e → (m ≡ n) × (d ≡ e)
one_line k m n d e a b s t q =
    let x = codes " -> " ++ reply_spelling d.reply in
    let y = codes " -> " ++ reply_spelling e.reply in
    let f = sym (four_pieces (decimal m) (codes " ") (call_spelling d.call) (codes " -> ") (reply_spelling d.reply)) ∙ q
    ∙ four_pieces (decimal n) (codes " ") (call_spelling e.call) (codes " -> ") (reply_spelling e.reply) in
    let r = one_decimal m n (32 ∷ (call_spelling d.call ++ x)) (32 ∷ (call_spelling e.call ++ y)) a b
    (inl (omega arith)) (inl (omega arith)) f in
    let c = one_call k d.call e.call x y s.0 t.0 (inl (omega arith)) (inl (omega arith)) (tail_of r.1) in
    grind (arith, one_reply k d.reply e.reply s.1 t.1 (cancel (codes " -> ") _ _ c.1))
