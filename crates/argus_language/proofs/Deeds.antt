-- A line spells one deed: operations of queries and changes, read back.
use Rattle.std.proofs.Common.{arith, ◌≡◌, ℕ, List, [], ◌++◌, Option, Some, None, refl, sym, ◌∙◌, ap}
use Rattle.std.specs.Option.{option_map}
use Rattle.argus_contents.specs.{Change.PlainChange, Content.PlainContent, Value.PlainValue, declared.query.Query.Query}
use Rattle.argus_contents.specs.declared.limits.TheConstants.{MAX_VALUE_DEPTH}
use Rattle.argus_texts.specs.{Spelling.{Within, spelling}, ContentSpelling.{PartsWithin, content_spelling}}
use Rattle.argus_texts.proofs.{Contents.one_content, Forms.{one_form, value_ends}}
use Rattle.argus_language.specs.{Operation.{Operation, of_any, of_record, of_array, of_variant}, PlainStep.SimpleStep}
use Rattle.argus_language.specs.{Spelled.{change_words, query_words, sentence}, Placement.{HasForm, IsReadable}}
use Rattle.argus_contents.specs.Change as change
use Rattle.argus_contents.specs.declared.query.Query.TheVariants as query
use Rattle.argus_language.specs.Operation as op
use Rattle.argus_language.specs.PlainStep as part
use Rattle.argus_language.specs.Spelled as line

-- the query that an operation is
query-of : Operation ℕ → Option Query
query-of (of_any op.read) = Some query.Whole
query-of (of_record f op.get) = Some (query.Field f)
query-of (of_array op.low) = Some query.Low
query-of (of_array op.high) = Some query.High
query-of (of_array op.size) = Some query.Size
query-of (of_array op.bottom) = Some query.Bottom
query-of (of_array op.top) = Some query.Top
query-of (of_array (op.fetch i)) = Some (query.Fetch i)
query-of (of_variant t op.is_tag) = Some (query.IsTag t)
query-of (of_variant t op.tag_value) = Some (query.TagValue t)
query-of o = None

query-told : (q : Query) → query-of (query_words q) ≡ Some q
unfolding query-of
query-told p = grind arith

change-no-query : (c : PlainChange) → query-of (change_words c) ≡ None
unfolding query-of
change-no-query p = grind arith

-- the value of a change, and its content
value-of : PlainChange → Option PlainValue
value-of (change.set_field f v) = Some v
value-of (change.store i v) = Some v
value-of (change.addh v) = Some v
value-of (change.addl v) = Some v
value-of (change.change_tag t v) = Some v
value-of c = None

content-of : PlainChange → Option PlainContent
content-of (change.create c) = Some c
content-of c = None

-- the text of a value in an operation, and of a content
value-text : Operation ℕ → Option (List ℕ)
value-text (of_record f (op.set t)) = Some t
value-text (of_array (op.store i t)) = Some t
value-text (of_array (op.addh t)) = Some t
value-text (of_array (op.addl t)) = Some t
value-text (of_variant t (op.change_tag v)) = Some v
value-text o = None

content-text : Operation ℕ → Option (List ℕ)
content-text (of_any (op.create t)) = Some t
content-text o = None

-- the change of this operation, with the content or the value for its text
rebuilt : Operation ℕ → Option PlainContent → Option PlainValue → Option PlainChange
rebuilt (of_any (op.create t)) c v = option_map change.create c
rebuilt (of_any op.touch) c v = Some change.touch
rebuilt (of_record f (op.set t)) c v = option_map (change.set_field f) v
rebuilt (of_array (op.store i t)) c v = option_map (change.store i) v
rebuilt (of_array (op.addh t)) c v = option_map change.addh v
rebuilt (of_array (op.addl t)) c v = option_map change.addl v
rebuilt (of_array op.remh) c v = Some change.remh
rebuilt (of_array op.reml) c v = Some change.reml
rebuilt (of_array (op.set_low i)) c v = Some (change.set_low i)
rebuilt (of_array (op.trim i n)) c v = Some (change.trim i n)
rebuilt (of_variant t (op.change_tag x)) c v = option_map (change.change_tag t) v
rebuilt o c v = None

-- what a change's words tell
record Told (c : PlainChange) : Type 0 where
  same : rebuilt (change_words c) (content-of c) (value-of c) ≡ Some c
  value : value-text (change_words c) ≡ option_map spelling (value-of c)
  content : content-text (change_words c) ≡ option_map content_spelling (content-of c)

change-told : (c : PlainChange) → Told c
unfolding rebuilt value-of content-of value-text content-text
change-told p = grind arith

-- P holds of what is there
Holds : {A : Type 0} → (A → Type 0) → Option A → Type 0
Holds P None = Unit {0}
Holds P (Some x) = P x

readable-value : (c : PlainChange) → IsReadable c → Holds (Within MAX_VALUE_DEPTH) (value-of c)
unfolding Holds value-of
readable-value p h = grind arith

readable-content : (c : PlainChange) → IsReadable c → Holds (PartsWithin MAX_VALUE_DEPTH) (content-of c)
unfolding Holds content-of
readable-content p h = grind arith

-- each has one text
one-of : {A : Type 0} (P : A → Type 0) (text : A → List ℕ)
    → ((x y : A) → P x → P y → text x ≡ text y → x ≡ y) → (o q : Option A) → Holds P o → Holds P q
    → option_map text o ≡ option_map text q → o ≡ q
unfolding Holds
one-of p text told q r h k e = grind arith

one-value : (v w : PlainValue) → Within MAX_VALUE_DEPTH v → Within MAX_VALUE_DEPTH w → spelling v ≡ spelling w → v ≡ w
one-value v w h k e = (one_form MAX_VALUE_DEPTH v w [] [] h k (value_ends v [] tt) (value_ends w [] tt)
    (ap (λ x. x ++ []) e)).0

one-content-told : (v w : PlainContent) → PartsWithin MAX_VALUE_DEPTH v → PartsWithin MAX_VALUE_DEPTH w
    → content_spelling v ≡ content_spelling w → v ≡ w
one-content-told v w h k e = (one_content MAX_VALUE_DEPTH v w [] [] h k (ap (λ x. x ++ []) e)).0

one-change : (c d : PlainChange) → IsReadable c → IsReadable d → change_words c ≡ change_words d → c ≡ d
one-change c d h k e =
    let C = change-told c in
    let D = change-told d in
    let values : value-of c ≡ value-of d = one-of (Within MAX_VALUE_DEPTH) spelling one-value (value-of c) (value-of d)
    (readable-value c h) (readable-value d k) (sym C.value ∙ ap value-text e ∙ D.value) in
    let contents : content-of c ≡ content-of d =
    one-of (PartsWithin MAX_VALUE_DEPTH) content_spelling one-content-told (content-of c) (content-of d)
    (readable-content c h) (readable-content d k) (sym C.content ∙ ap content-text e ∙ D.content) in
    let same : Some c ≡ Some d = sym C.same ∙ ap (λ o. rebuilt o (content-of c) (value-of c)) e
    ∙ ap (λ x. rebuilt (change_words d) x (value-of c)) contents
    ∙ ap (λ x. rebuilt (change_words d) (content-of d) x) values ∙ D.same in
    cc

one-query : (q r : Query) → query_words q ≡ query_words r → q ≡ r
one-query q r e = grind (arith, query-told, query-of)

apart : (q : Query) (c : PlainChange) → query_words q ≡ change_words c → ⊥
apart q c e = grind (arith, query-told, query-of, change-no-query)

access-number : (x y : ℕ) (o p : Operation ℕ) → line.access x o ≡ line.access y p → x ≡ y
access-number x y o p e = cc

access-operation : (x y : ℕ) (o p : Operation ℕ) → line.access x o ≡ line.access y p → o ≡ p
access-operation x y o p e = cc

-- a line tells one deed
pub one-deed : (d e : SimpleStep) → HasForm d → HasForm e → sentence d ≡ sentence e → d ≡ e
one-deed part.declare part.declare h k e = refl
one-deed part.leave part.leave h k e = refl
one-deed part.abort_leave part.abort_leave h k e = refl
one-deed part.leave_all part.leave_all h k e = refl
one-deed (part.ask x q) (part.ask y r) h k e = λ j. part.ask (access-number x y _ _ e j)
    (one-query q r (access-operation x y (query_words q) (query_words r) e) j)
one-deed (part.alter x c) (part.alter y d) h k e = λ j. part.alter (access-number x y _ _ e j)
    (one-change c d h k (access-operation x y (change_words c) (change_words d) e) j)
one-deed (part.ask x q) (part.alter y d) h k e =
    absurd (apart q d (access-operation x y (query_words q) (change_words d) e))
one-deed (part.alter x c) (part.ask y r) h k e =
    absurd (apart r c (access-operation y x (query_words r) (change_words c) (sym e)))
one-deed d e h k i = absurd (cc)
