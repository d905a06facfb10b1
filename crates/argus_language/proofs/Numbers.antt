-- What a line says of objects it says of more of them, too.
use Rattle.std.proofs.Common.{◌≡◌, ℕ, cond, List, ◌++◌, slice_get, Option, Some, None, is_some, sym, ◌∙◌, ap, arith}
use Rattle.std.proofs.{Common.length-append, Math.ListN.get_or-append, lemmas.Option.slice_get_within}
use Rattle.std.proofs.lemmas.Option.{slice_get-get_or}
use Rattle.std.specs.{Option.{option_and_then, option_map}, Str.bytes_eq}
use Rattle.argus_contents.specs.Shape.{PlainShape}
use Rattle.argus_language.specs.{Command.{Command, command_of}, Fault.{access_fault, name_fault}, Lines.line_text}
use Rattle.argus_language.specs.Numbered.{access_to, numbered, numbered_in, one_or_none, sentences_of}
use Rattle.argus_language.specs.{Objects.{PlainObjects, number_of, shape_at, with_more}, Operation.Operation}
use Rattle.argus_language.specs.Spelled.{Sentence}
use Rattle.argus_language.proofs.Naming.{position-kept}
use Rattle.argus_language.specs.Command as c
use Rattle.argus_language.specs.Spelled as sentence
use Rattle.argus_language.specs.declared.fault_kind.FaultKind.TheVariants as kind

get-kept : {X : Type 0} (xs ys : List X) (i : ℕ) (x : X) → slice_get xs i ≡ Some x → slice_get (xs ++ ys) i ≡ Some x
get-kept xs ys i x e =
    let within = slice_get_within xs i x e in
    slice_get-get_or (xs ++ ys) i x (omega (arith, length-append xs ys))
    ∙ ap Some (get_or-append xs ys x i within) ∙ sym (slice_get-get_or xs i x within) ∙ e

-- a name that was found
record Found (o : Option ℕ) : Type 0 where
  number : ℕ
  is : o ≡ Some number

found : (o : Option ℕ) → cond (is_some o) None (Some kind.UnknownName) ≡ None → Found o
found p e = grind arith

-- an object that was found
record Shaped (os : PlainObjects) (o : Option ℕ) : Type 0 where
  number : ℕ
  shape : PlainShape
  is : o ≡ Some number
  shape-is : shape_at os number ≡ Some shape

with-shape : (os : PlainObjects) (x : ℕ) (op : Operation (List ℕ)) (s : Option PlainShape) → shape_at os x ≡ s
    → access_fault op s ≡ None → Shaped os (Some x)
with-shape os x op p h e = grind arith

shaped : (os : PlainObjects) (op : Operation (List ℕ)) (o : Option ℕ)
    → access_fault op (option_and_then (shape_at os) o) ≡ None → Shaped os o
shaped os op p e = grind (arith, with-shape)

module _ (os more : PlainObjects) where
  number-kept : (name : List ℕ) (x : ℕ) → number_of name os ≡ Some x → number_of name (with_more os more) ≡ Some x
  number-kept name x e = position-kept (λ n. bytes_eq name n) os.names more.names x e

  access-kept : (op : Operation (List ℕ)) (name : List ℕ) → Shaped os (number_of name os)
      → numbered (with_more os more) (c.access name op) ≡ numbered os (c.access name op)
  access-kept op name h = let f : Option PlainShape → Option Sentence =
      λ o. option_and_then (λ s. option_map (sentence.access h.number) (numbered_in s op)) o in
      ap (option_and_then (access_to (with_more os more) op)) (number-kept name h.number h.is)
      ∙ ap f (get-kept os.shapes more.shapes h.number h.shape h.shape-is)
      ∙ sym (ap (option_and_then (access_to os op)) h.is ∙ ap f h.shape-is)

  numbered-grows : (x : Command) → name_fault x os ≡ None → numbered (with_more os more) x ≡ numbered os x
  numbered-grows p e = grind (arith, found, number-kept, access-kept, shaped)

  pub told-grows : (line : List ℕ) → name_fault (command_of (line_text line)) os ≡ None
      → sentences_of (with_more os more) line ≡ sentences_of os line
  told-grows line e = ap one_or_none (numbered-grows (command_of (line_text line)) e)
