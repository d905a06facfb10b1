-- A value of some depth has any greater one, too.
use Rattle.std.proofs.Common.{Bool, Box, Global, List, String, Vec, [], arith, max, string_bytes, subst, sym, ℕ, ℤ}
use Rattle.std.proofs.Common.{◌++◌, ◌-◌, ◌<◌, ◌^◌, ◌∷◌, ◌≡◌, ◌≤◌, ◌+◌, get_or, length, rules, take}
use Rattle.std.proofs.lemmas.List.{map-append, take_all, take_more}
use Rattle.std.specs.Str.{IsUtf8}
use Rattle.argus_contents.specs.Value.{PlainValue, PlainValues, listed, plain_list, plain_value}
use Rattle.argus_contents.specs.{declared.obj_id.ObjId.ObjId, declared.value.Value.Value}
use Rattle.argus_contents.specs.Value as value
use Rattle.argus_contents.proofs.Levels.{plain_value-Choice, plain_value-Fields}
use Rattle.argus_contents.specs.declared.value.Value as V
use Rattle.argus_memory.specs.declared.limited.Limited.{Limited}
use Rattle.argus_texts.specs.Spelling.{AllWithin, IsI64, Within}
use Rattle.argus_resume.specs.WellFormed.{AreWellFormedValues, IsWellFormedValue}

mutual
  deeper : (least most : ℕ) (v : PlainValue) → least ≤ most → Within least v → Within most v
  deeper least most value.null l w = omega arith
  deeper least most (value.bool b) l w = omega arith
  deeper least most (value.int n) l w = let p = w.0 in (omega arith, w.1)
  deeper least most (value.text t) l w = let p = w.0 in (omega arith, w.1)
  deeper least most (value.atomic o) l w = let p = w.0 in (omega arith, w.1)
  deeper least most (value.sequence vs) l w =
      let p = w.0 in (omega arith, all_deeper (least - 1) (most - 1) vs (omega arith) w.1)
  deeper least most (value.fields vs) l w =
      let p = w.0 in (omega arith, all_deeper (least - 1) (most - 1) vs (omega arith) w.1)
  deeper least most (value.choice t v) l w =
      let p = w.0 in (omega arith, w.1, deeper (least - 1) (most - 1) v (omega arith) w.2)

  all_deeper : (least most : ℕ) (vs : PlainValues) → least ≤ most → AllWithin least vs → AllWithin most vs
  all_deeper least most value.none l w = tt
  all_deeper least most (value.more v vs) l w = (deeper least most v l w.0, all_deeper least most vs l w.1)

-- a value before others
before : (v : PlainValue) (vs : PlainValues) → IsWellFormedValue v → AreWellFormedValues vs → AreWellFormedValues (value.more v vs)
before v vs one all = (
  max one.0 all.0,
  (deeper one.0 (max one.0 all.0) v (omega arith) one.1, all_deeper all.0 (max one.0 all.0) vs (omega arith) all.1),
)

-- values, and others after them
pub both_formed : (vs ws : List PlainValue) → AreWellFormedValues (listed vs) → AreWellFormedValues (listed ws) → AreWellFormedValues (listed (vs ++ ws))
both_formed [] ws first second = second
both_formed (v ∷ vs) ws first second =
    before v (listed (vs ++ ws)) (first.0, first.1.0) (both_formed vs ws (first.0, first.1.1) second)

abbrev Heap : Type 0
Heap = Limited Global

-- EACH KIND OF VALUE

null_is : plain_value V.Null ≡ value.null
null_is = search (rules, V.the_lemmas)

bool_is : (b : Bool) → plain_value (V.Bool b) ≡ value.bool b
bool_is b = search (rules, V.the_lemmas)

int_is : (n : ℤ) → plain_value (V.Int n) ≡ value.int n
int_is n = search (rules, V.the_lemmas)

text_is : (b : Box (String Heap) Heap) → plain_value (V.Text b) ≡ value.text (string_bytes b.value)
text_is b = search (rules, V.the_lemmas)

atomic_is : (o : ObjId) → plain_value (V.Atomic o) ≡ value.atomic o.0
atomic_is o = search (rules, V.the_lemmas)

sequence_is : (b : Box (Vec Value Heap) Heap) → plain_value (V.Sequence b)
    ≡ value.sequence (listed (plain_list b.value.items))
sequence_is b = search (rules, V.the_lemmas)

-- a value is held that says what is held
says : (v w : Value) (p : PlainValue) → v ≡ w → plain_value w ≡ p → IsWellFormedValue p → IsWellFormedValue (plain_value v)
says v w p is what held = subst (λ x. IsWellFormedValue (plain_value x)) (sym is) (subst IsWellFormedValue (sym what) held)

pub null_formed : (v : Value) → v ≡ V.Null → IsWellFormedValue (plain_value v)
null_formed v is = says v V.Null value.null is null_is (1, omega arith)

pub bool_formed : (v : Value) (b : Bool) → v ≡ V.Bool b → IsWellFormedValue (plain_value v)
bool_formed v b is = says v (V.Bool b) (value.bool b) is (bool_is b) (1, omega arith)

pub int_formed : (v : Value) (n : ℤ) → v ≡ V.Int n → IsI64 n → IsWellFormedValue (plain_value v)
int_formed v n is within = says v (V.Int n) (value.int n) is (int_is n) (1, (omega arith, within))

pub text_formed : (v : Value) (b : Box (String Heap) Heap) → v ≡ V.Text b → IsUtf8 (string_bytes b.value)
    → IsWellFormedValue (plain_value v)
text_formed v b is utf8 = says v (V.Text b) (value.text (string_bytes b.value)) is (text_is b) (1, (omega arith, utf8))

pub atomic_formed : (v : Value) (o : ObjId) → v ≡ V.Atomic o → o.0 < 2 ^ 32 → IsWellFormedValue (plain_value v)
atomic_formed v o is within = says v (V.Atomic o) (value.atomic o.0) is (atomic_is o) (1, (omega arith, within))

-- what lies in a value is one level less deep
one_up : (depth : ℕ) (vs : PlainValues) → AllWithin depth vs → AllWithin (depth + 1 - 1) vs
one_up depth vs w = all_deeper depth (depth + 1 - 1) vs (omega arith) w

pub sequence_formed : (v : Value) (b : Box (Vec Value Heap) Heap) → v ≡ V.Sequence b
    → AreWellFormedValues (listed (plain_list b.value.items)) → IsWellFormedValue (plain_value v)
sequence_formed v b is held = let vs = listed (plain_list b.value.items) in
    says v (V.Sequence b) (value.sequence vs) is (sequence_is b) (held.0 + 1, (omega arith, one_up held.0 vs held.1))

pub fields_formed : (v : Value) (b : Box (Vec Value Heap) Heap) → v ≡ V.Fields b
    → AreWellFormedValues (listed (plain_list b.value.items)) → IsWellFormedValue (plain_value v)
fields_formed v b is held = let vs = listed (plain_list b.value.items) in
    says v (V.Fields b) (value.fields vs) is (plain_value-Fields b) (held.0 + 1, (omega arith, one_up held.0 vs held.1))

pub choice_formed : (v : Value) (tag : ℕ) (b : Box Value Heap) → v ≡ V.Choice tag b → tag < 2 ^ 8
    → IsWellFormedValue (plain_value b.value) → IsWellFormedValue (plain_value v)
choice_formed v tag b is within held = let part = plain_value b.value in
    says v (V.Choice tag b) (value.choice tag part) is (plain_value-Choice tag b)
    (held.0 + 1, (omega arith, within, deeper held.0 (held.0 + 1 - 1) part (omega arith) held.1))

-- VALUES ONE AFTER THE OTHER

pub more_formed : (vs : List Value) (i : ℕ) (d : Value) → i < length vs → AreWellFormedValues (listed (plain_list (take i vs)))
    → IsWellFormedValue (plain_value (get_or vs i d)) → AreWellFormedValues (listed (plain_list (take (i + 1) vs)))
more_formed vs i d within first next =
    let one = plain_value (get_or vs i d) ∷ [] in
    let held : AreWellFormedValues (listed (plain_list (take i vs) ++ one)) =
    both_formed (plain_list (take i vs)) one first (next.0, (next.1, tt)) in
    subst (λ ws. AreWellFormedValues (listed (plain_list ws))) (sym (take_more vs i d within))
    (subst (λ ws. AreWellFormedValues (listed ws)) (sym (map-append plain_value (take i vs) (get_or vs i d ∷ []))) held)

pub all_formed : (vs : List Value) (i : ℕ) → length vs ≤ i → AreWellFormedValues (listed (plain_list (take i vs)))
    → AreWellFormedValues (listed (plain_list vs))
all_formed vs i past held = subst (λ ws. AreWellFormedValues (listed (plain_list ws))) (take_all i vs past) held

pub parts_formed : (vs ws : List Value) → AreWellFormedValues (listed (plain_list vs))
    → AreWellFormedValues (listed (plain_list ws)) → AreWellFormedValues (listed (plain_list (vs ++ ws)))
parts_formed vs ws first second = subst (λ us. AreWellFormedValues (listed us)) (sym (map-append plain_value vs ws))
    (both_formed (plain_list vs) (plain_list ws) first second)
