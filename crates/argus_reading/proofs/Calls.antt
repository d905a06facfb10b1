-- A text begins with one call at most.
use Rattle.std.proofs.{lemmas.Bool.false≢true, Common.{◌≡◌, ℕ, true, List, [], ◌∷◌, ◌++◌, arith, refl, sym, ap, inl}}
use Rattle.std.proofs.Common.{◌∙◌, append_assoc}
use Rattle.std.specs.{Fmt.decimal, Prelude.{codes, ◌==◌}}
use Rattle.argus_texts.proofs.{Lists.cancel, ShapeForms.one_shape, Stops.{Clear, Precedes}}
use Rattle.argus_entries.specs.{Call.PlainCall, EntrySpelling.{call_spelling, place_spelling}}
use Rattle.argus_entries.specs.OperationSpelling.{change_spelling, query_spelling}
use Rattle.argus_entries.proofs.FirstWords.{call_key, call_key_is, call_kind, one_call_kind}
use Rattle.argus_reading.specs.{Calls.{CallEnds, Calls, IsReadableCall, Places}, Operations.{Changes, Queries}}
use Rattle.argus_reading.proofs.Operations.{change_first, change_nil, changes_clear, queries_clear, query_first}
use Rattle.argus_reading.proofs.{Operations.{query_nil, change_precedes, query_precedes}, Words.{Joint, joint_clear}}
use Rattle.argus_reading.proofs.Joints.{ids_clear, place_joint}
use Rattle.argus_contents.specs.Change as change
use Rattle.argus_contents.specs.declared.query.Query.TheVariants as query
use Rattle.argus_entries.specs.Call as call

pub places_clear : (w : List ℕ) → Clear (Places w)
places_clear w = joint_clear (place_joint w) (ids_clear (codes "o"))

pub ask_joint : (w : List ℕ) → Joint (Places w) 32 Queries
ask_joint w = record { clear = places_clear w; precedes = λ a y. inl (omega arith); example = query.Whole; good = tt }

pub alter_joint : (w : List ℕ) → Joint (Places w) 32 Changes
alter_joint w =
    record { clear = places_clear w; precedes = λ a y. inl (omega arith); example = change.touch; good = tt }

-- an action and an object, written as parts
pub place_form : (w : List ℕ) (a o : ℕ) → place_spelling w a o ≡ (Places w).form (a, o)
place_form w a o = append_assoc (w ++ decimal a) (32 ∷ 111 ∷ []) (decimal o)

-- the same with something behind a blank
pub access_form : (w : List ℕ) (a o : ℕ) (s : List ℕ)
    → place_spelling w a o ++ codes " " ++ s ≡ (Places w).form (a, o) ++ 32 ∷ s
access_form w a o s =
    append_assoc (place_spelling w a o) (32 ∷ []) s ∙ ap (λ (z : List ℕ). z ++ 32 ∷ s) (place_form w a o)

-- what begins with the word of a declaration is one
pub declare_kind : (c : PlainCall) (u y : List ℕ) → codes "declare " ++ u ≡ call_spelling c ++ y → call_kind c ≡ 100
declare_kind c u y e = sym (call_key_is c y) ∙ sym (ap call_key e)

placed : (v : List ℕ) (a o b p : ℕ) (x y : List ℕ) → place_spelling v a o ++ x ≡ place_spelling v b p ++ y
    → (Places v).form (a, o) ++ x ≡ (Places v).form (b, p) ++ y
placed v a o b p x y e =
    sym (ap (λ (z : List ℕ). z ++ x) (place_form v a o)) ∙ e ∙ ap (λ (z : List ℕ). z ++ y) (place_form v b p)

accessed : (v : List ℕ) (a o b p : ℕ) (s t x y : List ℕ)
    → (place_spelling v a o ++ codes " " ++ s) ++ x ≡ (place_spelling v b p ++ codes " " ++ t) ++ y
    → ((Places v).form (a, o) ++ 32 ∷ s) ++ x ≡ ((Places v).form (b, p) ++ 32 ∷ t) ++ y
accessed v a o b p s t x y e =
    sym (ap (λ (z : List ℕ). z ++ x) (access_form v a o s)) ∙ e ∙ ap (λ (z : List ℕ). z ++ y) (access_form v b p t)

call_told : (c d : PlainCall) (x y : List ℕ) → IsReadableCall c → IsReadableCall d → CallEnds c x → CallEnds d y
    → (call_kind c == call_kind d) ≡ true → call_spelling c ++ x ≡ call_spelling d ++ y → (c ≡ d) × (x ≡ y)
call_told (call.declare s) (call.declare t) x y a b p q k e =
    let r = one_shape s t x y a.0 b.0 (cancel (codes "declare ") _ _ e) in (ap call.declare r.0, r.1)
call_told call.begin_top call.begin_top x y a b p q k e = (refl, cancel (codes "begin_top") x y e)
call_told (call.begin_sub m) (call.begin_sub n) x y a b p q k e =
    let r = (ids_clear (codes "begin_sub a")).one m n x y (omega arith, omega (arith, a.0)) (
      omega arith,
      omega
          (arith, b.0),
    ) p q e in (ap call.begin_sub r.0, r.1)
call_told (call.begin_nested m) (call.begin_nested n) x y a b p q k e =
    let r = (ids_clear (codes "begin_nested a")).one m n x y (omega arith, omega (arith, a.0))
    (omega arith, omega (arith, b.0)) p q e in (ap call.begin_nested r.0, r.1)
call_told (call.commit m) (call.commit n) x y a b p q k e =
    let r = (ids_clear (codes "commit a")).one m n x y (omega arith, omega (arith, a.0)) (
      omega arith,
      omega
          (arith, b.0),
    ) p q e in (ap call.commit r.0, r.1)
call_told (call.abort m) (call.abort n) x y a b p q k e =
    let r = (ids_clear (codes "abort a")).one m n x y (omega arith, omega (arith, a.0)) (
      omega arith,
      omega
          (arith, b.0),
    ) p q e in (ap call.abort r.0, r.1)
call_told (call.abort_others m) (call.abort_others n) x y a b p q k e =
    let r = (ids_clear (codes "abort_others a")).one m n x y (omega arith, omega (arith, a.0))
    (omega arith, omega (arith, b.0)) p q e in (ap call.abort_others r.0, r.1)
call_told (call.ask m o u) (call.ask n j v) x y a b p q k e =
    let w = codes "ask a" in
    let r = (joint_clear (ask_joint w) queries_clear).one ((m, o), u) ((n, j), v) x y
    (((omega arith, omega (arith, a.0.0)), (omega arith, omega (arith, a.0.1))), a.0.2)
    (((omega arith, omega (arith, b.0.0)), (omega arith, omega (arith, b.0.1))), b.0.2) p q
    (accessed w m o n j (query_spelling u) (query_spelling v) x y e) in
    (ap (λ z. call.ask z.0.0 z.0.1 z.1) r.0, r.1)
call_told (call.alter m o u) (call.alter n j v) x y a b p q k e =
    let w = codes "alter a" in
    let r = (joint_clear (alter_joint w) changes_clear).one ((m, o), u) ((n, j), v) x y
    (((omega arith, omega (arith, a.0.0)), (omega arith, omega (arith, a.0.1))), a.0.2)
    (((omega arith, omega (arith, b.0.0)), (omega arith, omega (arith, b.0.1))), b.0.2) p q
    (accessed w m o n j (change_spelling u) (change_spelling v) x y e) in
    (ap (λ z. call.alter z.0.0 z.0.1 z.1) r.0, r.1)
call_told (call.test_read m o) (call.test_read n j) x y a b p q k e =
    let r = (places_clear (codes "test_read a")).one (m, o) (n, j) x y
    ((omega arith, omega (arith, a.0.0)), (omega arith, omega (arith, a.0.1)))
    ((omega arith, omega (arith, b.0.0)), (omega arith, omega (arith, b.0.1))) p q
    (placed (codes "test_read a") m o n j x y e) in
    (ap (λ z. call.test_read z.0 z.1) r.0, r.1)
call_told (call.test_write m o) (call.test_write n j) x y a b p q k e =
    let r = (places_clear (codes "test_write a")).one (m, o) (n, j) x y
    ((omega arith, omega (arith, a.0.0)), (omega arith, omega (arith, a.0.1)))
    ((omega arith, omega (arith, b.0.0)), (omega arith, omega (arith, b.0.1))) p q
    (placed (codes "test_write a") m o n j x y e) in
    (ap (λ z. call.test_write z.0 z.1) r.0, r.1)
call_told _ _ x y a b p q k e = absurd (false≢true k)

call_nil : (c : PlainCall) → CallEnds c []
call_nil p = grind (arith, query_nil, change_nil)

call_first : (d : PlainCall) (c : ℕ) (x y : List ℕ) → CallEnds d (c ∷ x) → CallEnds d (c ∷ y)
call_first p c x y e = grind (arith, query_first, change_first)

pub calls_clear : Clear Calls
calls_clear = grind (arith, call_told, one_call_kind, call_nil, call_first)

-- a blank may come behind a call
pub call_precedes : Precedes Calls 32
call_precedes p y = grind (arith, query_precedes, change_precedes)
