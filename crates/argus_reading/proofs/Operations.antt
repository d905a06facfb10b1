-- A text begins with one query and change at most.
use Rattle.std.proofs.{lemmas.Bool.false≢true, Common.{◌≡◌, ℕ, true, List, [], ◌∷◌, ◌++◌, arith, refl, sym, ap, ◌∙◌}}
use Rattle.std.proofs.Common.{append_assoc, inl}
use Rattle.std.specs.{Fmt.{decimal, signed_decimal}, Prelude.{codes, ◌==◌}}
use Rattle.argus_contents.specs.{Change.PlainChange, declared.query.Query.Query, Value.PlainValue}
use Rattle.argus_texts.specs.{Languages.{Contents, ValueEnds, Values}, Spelling.spelling}
use Rattle.argus_texts.proofs.{Contents.contents_clear, Digits.ints_clear, Forms.{ends_first, value_ends, values_clear}}
use Rattle.argus_texts.proofs.{Lists.cancel, Stops.{Clear, Precedes}}
use Rattle.argus_entries.specs.{Laws.{ChangeWithin, QueryWithin}, OperationSpelling.{change_spelling, query_spelling}}
use Rattle.argus_entries.proofs.FirstWords.{change_kind, one_change_kind, one_query_kind, query_kind}
use Rattle.argus_reading.specs.Operations.{ChangeEnds, Changes, Queries, QueryEnds}
use Rattle.argus_reading.proofs.Joints.{byte_joint, bytes_clear, int_joint, ints_joint, worded_ints_clear}
use Rattle.argus_reading.proofs.Words.{joint_clear, worded_clear}
use Rattle.argus_contents.specs.Change as change
use Rattle.argus_contents.specs.declared.query.Query.TheVariants as query

-- QUERIES

query_told : (q r : Query) (x y : List ℕ) → QueryWithin q → QueryWithin r → QueryEnds q x → QueryEnds r y
    → (query_kind q == query_kind r) ≡ true → query_spelling q ++ x ≡ query_spelling r ++ y → (q ≡ r) × (x ≡ y)
query_told query.Whole query.Whole x y a b p q k e = (refl, cancel (codes "whole") x y e)
query_told (query.Field i) (query.Field j) x y a b p q k e =
    let r = (bytes_clear (codes "field ")).one i j x y (omega arith, omega arith) (omega arith, omega arith) p q e in
    (ap query.Field r.0, r.1)
query_told query.Low query.Low x y a b p q k e = (refl, cancel (codes "low") x y e)
query_told query.High query.High x y a b p q k e = (refl, cancel (codes "high") x y e)
query_told query.Size query.Size x y a b p q k e = (refl, cancel (codes "size") x y e)
query_told (query.Fetch i) (query.Fetch j) x y a b p q k e =
    let r = (worded_ints_clear (codes "fetch ")).one i j x y a b p q e in (ap query.Fetch r.0, r.1)
query_told query.Bottom query.Bottom x y a b p q k e = (refl, cancel (codes "bottom") x y e)
query_told query.Top query.Top x y a b p q k e = (refl, cancel (codes "top") x y e)
query_told (query.IsTag t) (query.IsTag u) x y a b p q k e =
    let r = (bytes_clear (codes "is_tag ")).one t u x y (omega arith, omega arith) (omega arith, omega arith) p q e in
    (ap query.IsTag r.0, r.1)
query_told (query.TagValue t) (query.TagValue u) x y a b p q k e =
    let r = (bytes_clear (codes "tag_value ")).one t u x y (omega arith, omega arith)
    (omega arith, omega arith) p q e in
    (ap query.TagValue r.0, r.1)
query_told _ _ x y a b p q k e = absurd (false≢true k)

pub query_nil : (q : Query) → QueryEnds q []
query_nil p = grind arith

pub query_first : (q : Query) (c : ℕ) (x y : List ℕ) → QueryEnds q (c ∷ x) → QueryEnds q (c ∷ y)
query_first p c x y e = grind arith

pub queries_clear : Clear Queries
queries_clear = grind (arith, query_told, one_query_kind, query_nil, query_first)

-- CHANGES

-- two things behind a word, with a blank between
blank_between : (w s x : List ℕ) → (w ++ codes " " ++ s) ++ x ≡ (w ++ 32 ∷ s) ++ x
blank_between w s x = ap (λ (z : List ℕ). z ++ x) (append_assoc w (32 ∷ []) s)

between : (v w s t x y : List ℕ) → (v ++ codes " " ++ s) ++ x ≡ (w ++ codes " " ++ t) ++ y
    → (v ++ 32 ∷ s) ++ x ≡ (w ++ 32 ∷ t) ++ y
between v w s t x y e = sym (blank_between v s x) ∙ e ∙ blank_between w t y

change_told : (c d : PlainChange) (x y : List ℕ) → ChangeWithin 16 c → ChangeWithin 16 d → ChangeEnds c x
    → ChangeEnds d y → (change_kind c == change_kind d) ≡ true → change_spelling c ++ x ≡ change_spelling d ++ y
    → (c ≡ d) × (x ≡ y)
change_told (change.create c) (change.create d) x y a b p q k e =
    let r = (worded_clear (codes "create ") (Contents 16) (contents_clear 16)).one c d x y a b p q e in
    (ap change.create r.0, r.1)
change_told (change.set_field i v) (change.set_field j w) x y a b p q k e =
    let l = codes "set_field " in
    let r = (joint_clear (byte_joint l) (values_clear 16)).one (i, v) (j, w) x y
    ((omega arith, omega (arith, a.0)), a.1) ((omega arith, omega (arith, b.0)), b.1) p q
    (between (l ++ decimal i) (l ++ decimal j) (spelling v) (spelling w) x y e) in
    (ap (λ z. change.set_field z.0 z.1) r.0, r.1)
change_told (change.store i v) (change.store j w) x y a b p q k e =
    let l = codes "store " in
    let r = (joint_clear (int_joint l) (values_clear 16)).one (i, v) (j, w) x y (a.0, a.1) (b.0, b.1) p q
    (between (l ++ signed_decimal i) (l ++ signed_decimal j) (spelling v) (spelling w) x y e) in
    (ap (λ z. change.store z.0 z.1) r.0, r.1)
change_told (change.addh v) (change.addh w) x y a b p q k e =
    let r = (worded_clear (codes "addh ") (Values 16) (values_clear 16)).one v w x y a b p q e in
    (ap change.addh r.0, r.1)
change_told (change.addl v) (change.addl w) x y a b p q k e =
    let r = (worded_clear (codes "addl ") (Values 16) (values_clear 16)).one v w x y a b p q e in
    (ap change.addl r.0, r.1)
change_told change.remh change.remh x y a b p q k e = (refl, cancel (codes "remh") x y e)
change_told change.reml change.reml x y a b p q k e = (refl, cancel (codes "reml") x y e)
change_told (change.set_low i) (change.set_low j) x y a b p q k e =
    let r = (worded_ints_clear (codes "set_low ")).one i j x y a b p q e in (ap change.set_low r.0, r.1)
change_told (change.trim i m) (change.trim j n) x y a b p q k e =
    let l = codes "trim " in
    let r = (joint_clear (ints_joint l) ints_clear).one (i, m) (j, n) x y (a.0, a.1) (b.0, b.1) p q
    (between (l ++ signed_decimal i) (l ++ signed_decimal j) (signed_decimal m) (signed_decimal n) x y e) in
    (ap (λ z. change.trim z.0 z.1) r.0, r.1)
change_told (change.change_tag t v) (change.change_tag u w) x y a b p q k e =
    let l = codes "change_tag " in
    let r = (joint_clear (byte_joint l) (values_clear 16)).one (t, v) (u, w) x y
    ((omega arith, omega (arith, a.0)), a.1) ((omega arith, omega (arith, b.0)), b.1) p q
    (between (l ++ decimal t) (l ++ decimal u) (spelling v) (spelling w) x y e) in
    (ap (λ z. change.change_tag z.0 z.1) r.0, r.1)
change_told change.touch change.touch x y a b p q k e = (refl, cancel (codes "touch") x y e)
change_told _ _ x y a b p q k e = absurd (false≢true k)

pub change_nil : (c : PlainChange) → ChangeEnds c []
change_nil p = grind (arith, value_ends)

pub change_first : (d : PlainChange) (c : ℕ) (x y : List ℕ) → ChangeEnds d (c ∷ x) → ChangeEnds d (c ∷ y)
change_first p c x y e = grind (arith, ends_first)

pub changes_clear : Clear Changes
changes_clear = grind (arith, change_told, one_change_kind, change_nil, change_first)

-- A BLANK BEHIND THEM

pub query_precedes : Precedes Queries 32
query_precedes p y = grind arith

value_blank : (v : PlainValue) (y : List ℕ) → ValueEnds v (32 ∷ y)
value_blank v y = value_ends v (32 ∷ y) (inl (omega arith))

pub change_precedes : Precedes Changes 32
change_precedes p y = grind (arith, value_blank)
