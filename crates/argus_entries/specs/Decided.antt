-- The tests of what is said say exactly whether it is the same.
use Rattle.std.proofs.{Common.{arith, Bool, ap, true, ◌∙◌, ◌≡◌}, lemmas.Bool.{Decides.nat_tests, and_parts}}
use Rattle.std.specs.{Bool.{Decides, one_answer}, Cmp.signed_Decides, Prelude.◌↔◌}
use Rattle.argus_contents.specs.Decided.{answer_decided, change_decided, decided, shape_decided}
use Rattle.argus_contents.specs.declared.query.Query.{Query}
use Rattle.argus_entries.specs.{Call.PlainCall, Entry.PlainEntry, Reply.PlainReply, declared.refusal.Refusal.Refusal}
use Rattle.argus_entries.specs.Same.{same_call, same_entry, same_query, same_refusal, same_reply}

-- queries that the test finds the same are equal
query_told : (a b : Query) → same_query a b ≡ true → a ≡ b
query_told a b e = grind (arith, nat_tests, signed_Decides)

-- the test finds each query the same as itself
query_itself : (a : Query) → same_query a a ≡ true
query_itself a = grind (arith, nat_tests, signed_Decides)

-- calls that the test finds the same are equal
call_told : (a b : PlainCall) → same_call a b ≡ true → a ≡ b
call_told a b e = grind (arith, nat_tests, shape_decided, change_decided, query_told)

-- the test finds each call the same as itself
call_itself : (a : PlainCall) → same_call a a ≡ true
call_itself a = grind (arith, nat_tests, shape_decided, change_decided, query_itself)

-- refusals that the test finds the same are equal
refusal_told : (a b : Refusal) → same_refusal a b ≡ true → a ≡ b
refusal_told a b e = grind (arith)

-- the test finds each refusal the same as itself
refusal_itself : (a : Refusal) → same_refusal a a ≡ true
refusal_itself a = grind (arith)

-- replies that the test finds the same are equal
reply_told : (a b : PlainReply) → same_reply a b ≡ true → a ≡ b
reply_told a b e = grind (arith, nat_tests, answer_decided, refusal_told)

-- the test finds each reply the same as itself
reply_itself : (a : PlainReply) → same_reply a a ≡ true
reply_itself a = grind (arith, nat_tests, answer_decided, refusal_itself)

-- entries that the test finds the same are equal
entry_told : (a b : PlainEntry) → same_entry a b ≡ true → a ≡ b
entry_told a b e =
    let s = and_parts (same_call a.call b.call) (same_reply a.reply b.reply) e in
    let by_call : PlainCall → PlainEntry = λ c. record { call = c; reply = a.reply } in
    let by_reply : PlainReply → PlainEntry = λ r. record { call = b.call; reply = r } in
    ap by_call (call_told a.call b.call s.0) ∙ ap by_reply (reply_told a.reply b.reply s.1)

-- the test finds each entry the same as itself
entry_itself : (a : PlainEntry) → same_entry a a ≡ true
entry_itself a = grind (arith, call_itself, reply_itself)

-- the test by cases says exactly which calls are equal
pub call_decided : (a b : PlainCall) → Decides (same_call a b) (a ≡ b)
call_decided = decided same_call call_told call_itself

-- any test of which calls are equal agrees with the test by cases
pub call_answered : (r : Bool) (a b : PlainCall) → (r ≡ true) ↔ (a ≡ b) → r ≡ same_call a b
call_answered r a b d = one_answer r (same_call a b) d (call_decided a b)

-- the test by cases says exactly which replies are equal
pub reply_decided : (a b : PlainReply) → Decides (same_reply a b) (a ≡ b)
reply_decided = decided same_reply reply_told reply_itself

-- any test of which replies are equal agrees with the test by cases
pub reply_answered : (r : Bool) (a b : PlainReply) → (r ≡ true) ↔ (a ≡ b) → r ≡ same_reply a b
reply_answered r a b d = one_answer r (same_reply a b) d (reply_decided a b)

-- the test by cases says exactly which entries are equal
pub entry_decided : (a b : PlainEntry) → Decides (same_entry a b) (a ≡ b)
entry_decided = decided same_entry entry_told entry_itself

-- any test of which entries are equal agrees with the test by cases
pub entry_answered : (r : Bool) (a b : PlainEntry) → (r ≡ true) ↔ (a ≡ b) → r ≡ same_entry a b
entry_answered r a b d = one_answer r (same_entry a b) d (entry_decided a b)
