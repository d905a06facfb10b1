-- The text of an object's line determines what it says.
use Rattle.std.proofs.Common.{List, ap, append-nil, arith, inl, refl, sym, ◌++◌, ◌∙◌, ◌∷◌, ◌≡◌, ℕ, []}
use Rattle.std.specs.Prelude.{None, Option, Some, codes}
use Rattle.argus_contents.specs.{Content.PlainContent, Shape.PlainShape}
use Rattle.argus_reading.proofs.Joints.{ids_clear}
use Rattle.argus_texts.specs.{ContentSpelling.{PartsWithin, content_spelling}, ShapeSpelling.shape_spelling}
use Rattle.argus_texts.proofs.{Contents.one_content, Forms.int_lead, Lists.tail_of, ShapeForms.one_shape}
use Rattle.argus_reading.specs.OpeningLanguages.{IsForm, IsReadableContent, ObjectLines, content_text}

absent_not : (c : PlainContent) → PartsWithin 16 c → codes "absent" ≡ content_spelling c → ⊥
absent_not p w e = grind (arith, int_lead)

pub content_told : (c d : Option PlainContent) → IsReadableContent c → IsReadableContent d
    → content_text c ≡ content_text d → c ≡ d
content_told None None w v e = refl
content_told None (Some d) w v e = absurd (absent_not d v e)
content_told (Some c) None w v e = absurd (absent_not c w (sym e))
content_told (Some c) (Some d) w v e =
    ap Some (one_content 16 c d [] [] w v (append-nil (content_spelling c) ∙ e ∙ sym (append-nil
    (content_spelling d)))).0

-- the text of an object's line determines its number, its shape and its content
pub object_told : (o p : ℕ) (a b : PlainShape × Option PlainContent) (text : List ℕ) → IsForm ObjectLines (o, a) text
    → IsForm ObjectLines (p, b) text → (o ≡ p) × (a ≡ b)
object_told o p a b text f g =
    let x : List ℕ = shape_spelling a.0 ++ 32 ∷ content_text a.1 in
    let y : List ℕ = shape_spelling b.0 ++ 32 ∷ content_text b.1 in
    let numbers = (ids_clear (codes "o")).one o p (32 ∷ x) (32 ∷ y) f.good.0 g.good.0 (inl (omega arith)) (inl
    (omega arith)) (sym f.is ∙ g.is) in
    let shapes = one_shape a.0 b.0 (32 ∷ content_text a.1) (32 ∷ content_text b.1) f.good.1.0.named g.good.1.0.named
    (tail_of numbers.1) in
    let contents = content_told a.1 b.1 f.good.1.1 g.good.1.1 (tail_of shapes.1) in
    (numbers.0, ap (λ (s : PlainShape). (s, a.1)) shapes.0 ∙ ap (λ (c : Option PlainContent). (b.0, c)) contents)
