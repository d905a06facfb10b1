-- What calls are read from: the word of a declaration, and the parts of the others.
use Rattle.std.proofs.Common.{◌≡◌, ℕ, inl, inr, List, [], ◌++◌, arith, refl, sym, ap, ◌∙◌, append_assoc, append-nil}
use Rattle.std.specs.Prelude.{codes}
use Rattle.argus_contents.specs.Shape.{PlainShape}
use Rattle.argus_contents.specs.Shape as shape
use Rattle.argus_contents.specs.Ty as ty
use Rattle.argus_texts.specs.{Language.{FormOf, Starts}, ShapeLanguages.Shapes}
use Rattle.argus_texts.specs.ShapeSpelling.{IsMakeable, shape_spelling}
use Rattle.argus_texts.proofs.{Lists.cancel, Stops.Behind}
use Rattle.argus_entries.specs.{Call.PlainCall, EntrySpelling.call_spelling}
use Rattle.argus_entries.specs.OperationSpelling.{change_spelling, query_spelling}
use Rattle.argus_entries.specs.Call as call
use Rattle.argus_reading.specs.Calls.{CallEnds, CallParts, Calls, IsReadableCall}
use Rattle.argus_reading.proofs.{Calls.{access_form, declare_kind, place_form}, Parts.same}

-- a shape, as an example
abbrev pub nulls : PlainShape
nulls = shape.arr ty.null

nulls_makeable : IsMakeable nulls
nulls_makeable = record { no_fault = refl; named = tt }

-- a call without its rest
whole : (c : PlainCall) (x : List ℕ) → IsReadableCall c → x ≡ call_spelling c → (v : List ℕ) × FormOf Calls (x ++ v)
whole c x g e = ([], record { thing = c; good = g; is = append-nil x ∙ e })

-- a form of a part goes on to one of a call
call_form : (t : CallParts.Thing) → CallParts.Good t → (v : List ℕ) × FormOf Calls (CallParts.form t ++ v)
call_form (inl u) g =
    (shape_spelling nulls, record { thing = call.declare nulls; good = (tt, nulls_makeable); is = refl })
call_form (inr (inl (inl u))) g = whole call.begin_top _ (tt, tt) refl
call_form (inr (inl (inr (inl a)))) g = whole (call.begin_sub a) _ (omega (arith, g.1), tt) refl
call_form (inr (inl (inr (inr (inl a))))) g = whole (call.begin_nested a) _ (omega (arith, g.1), tt) refl
call_form (inr (inl (inr (inr (inr (inl a)))))) g = whole (call.commit a) _ (omega (arith, g.1), tt) refl
call_form (inr (inl (inr (inr (inr (inr (inl a))))))) g = whole (call.abort a) _ (omega (arith, g.1), tt) refl
call_form (inr (inl (inr (inr (inr (inr (inr a))))))) g = whole (call.abort_others a) _ (omega (arith, g.1), tt) refl
call_form (inr (inr (inl p))) g =
    whole (call.ask p.0.0 p.0.1 p.1) _ ((omega (arith, g.0.0), omega (arith, g.0.1), g.1), tt)
    (sym (access_form (codes "ask a") p.0.0 p.0.1 (query_spelling p.1)))
call_form (inr (inr (inr (inl p)))) g =
    whole (call.alter p.0.0 p.0.1 p.1) _ ((omega (arith, g.0.0), omega (arith, g.0.1), g.1), tt)
    (sym (access_form (codes "alter a") p.0.0 p.0.1 (change_spelling p.1)))
call_form (inr (inr (inr (inr (inl p))))) g =
    whole (call.test_read p.0 p.1) _ ((omega (arith, g.0), omega (arith, g.1)), tt) (sym (place_form
    (codes "test_read a") p.0 p.1))
call_form (inr (inr (inr (inr (inr p))))) g =
    whole (call.test_write p.0 p.1) _ ((omega (arith, g.0), omega (arith, g.1)), tt) (sym (place_form
    (codes "test_write a") p.0 p.1))

call_start : (c : PlainCall) (rest : List ℕ) → IsReadableCall c → CallEnds c rest
    → Starts CallParts (call_spelling c ++ rest)
call_start (call.declare s) rest g e = same CallParts (inl tt) _ (shape_spelling s ++ rest) tt tt refl
call_start call.begin_top rest g e = same CallParts (inr (inl (inl tt))) _ rest tt tt refl
call_start (call.begin_sub a) rest g e =
    same CallParts (inr (inl (inr (inl a)))) _ rest (omega arith, omega (arith, g.0)) e refl
call_start (call.begin_nested a) rest g e =
    same CallParts (inr (inl (inr (inr (inl a))))) _ rest (omega arith, omega (arith, g.0)) e refl
call_start (call.commit a) rest g e =
    same CallParts (inr (inl (inr (inr (inr (inl a)))))) _ rest (omega arith, omega (arith, g.0)) e refl
call_start (call.abort a) rest g e =
    same CallParts (inr (inl (inr (inr (inr (inr (inl a))))))) _ rest (omega arith, omega (arith, g.0)) e refl
call_start (call.abort_others a) rest g e =
    same CallParts (inr (inl (inr (inr (inr (inr (inr a))))))) _ rest (omega arith, omega (arith, g.0)) e refl
call_start (call.ask a o q) rest g e = same CallParts (inr (inr (inl ((a, o), q)))) _ rest
    (((omega arith, omega (arith, g.0.0)), (omega arith, omega (arith, g.0.1))), g.0.2) e
    (ap (λ (z : List ℕ). z ++ rest) (access_form (codes "ask a") a o (query_spelling q)))
call_start (call.alter a o q) rest g e = same CallParts (inr (inr (inr (inl ((a, o), q))))) _ rest
    (((omega arith, omega (arith, g.0.0)), (omega arith, omega (arith, g.0.1))), g.0.2) e
    (ap (λ (z : List ℕ). z ++ rest) (access_form (codes "alter a") a o (change_spelling q)))
call_start (call.test_read a o) rest g e = same CallParts (inr (inr (inr (inr (inl (a, o)))))) _ rest (
  (omega arith, omega (arith, g.0.0)),
  (omega arith, omega (arith, g.0.1)),
) e (ap (λ (z : List ℕ). z ++ rest) (place_form (codes "test_read a") a o))
call_start (call.test_write a o) rest g e = same CallParts (inr (inr (inr (inr (inr (a, o)))))) _ rest (
  (omega arith, omega (arith, g.0.0)),
  (omega arith, omega (arith, g.0.1)),
) e (ap (λ (z : List ℕ). z ++ rest) (place_form (codes "test_write a") a o))

-- reading a part of a call is reading a call
pub call_parts : Behind [] CallParts Calls
call_parts = record {
  forms = λ u t f. let r = call_form f.thing f.good in (
    t ++ r.0,
    record {
      thing = r.1.thing;
      good = r.1.good;
      is = sym (append_assoc u t r.0) ∙ ap (λ (z : List ℕ). z ++ r.0) f.is ∙ r.1.is;
    },
  );
  starts = λ u s. let t = call_start s.thing s.rest s.reads.good s.reads.ends in
      same CallParts t.thing u t.rest t.reads.good t.reads.ends (s.reads.is ∙ t.reads.is);
}

declare_starts : (c : PlainCall) (u y : List ℕ) → IsReadableCall c → codes "declare " ++ u ≡ call_spelling c ++ y
    → Starts Shapes u
declare_starts (call.declare s) u y g e = same Shapes s u y g.1 tt (cancel (codes "declare ") _ _ e)
declare_starts c u y g e = let k = declare_kind c u y e in absurd (omega arith)

-- a shape behind its word
pub shape_part : Behind (codes "declare ") Shapes Calls
shape_part = record {
  forms = λ u t f. (
    t,
    record {
      thing = call.declare f.thing;
      good = (f.good.named, f.good);
      is = ap (λ (z : List ℕ). codes "declare " ++ z) f.is;
    },
  );
  starts = λ u s. declare_starts s.thing u s.rest s.reads.good s.reads.is;
}
