-- What a command says of declared objects: numbers in place of names.
use Rattle.std.specs.{Prelude.{ℕ, List, [], ◌∷◌, Option, Some, None}, Option.{option_and_then, option_map}}
use Rattle.argus_contents.specs.Shape.{PlainShape, rec, arr, var}
use Rattle.argus_language.specs.{Command.{Command, command_of}, Fields.field_of, Lines.line_text, Spelled.Sentence}
use Rattle.argus_language.specs.Objects.{PlainObjects, number_of, shape_at}
use Rattle.argus_language.specs.Operation.{Operation, of_any, of_record, of_array, of_variant}
use Rattle.argus_language.specs.Command as command
use Rattle.argus_language.specs.Spelled as sentence
use Rattle.argus_language.specs.declared.block_kind.BlockKind.TheVariants as opening

-- an operation on an object of this shape, with the number of its field or tag; `None` if it
-- doesn't suit the shape
abbrev pub numbered_in : PlainShape → Operation (List ℕ) → Option (Operation ℕ)
numbered_in s (of_any o) = Some (of_any o)
numbered_in (rec fs) (of_record name o) = option_map (λ f. of_record f o) (field_of name fs)
numbered_in (arr t) (of_array o) = Some (of_array o)
numbered_in (var fs) (of_variant name o) = option_map (λ t. of_variant t o) (field_of name fs)
numbered_in s o = None

-- an access to the object with this number
abbrev pub access_to : PlainObjects → Operation (List ℕ) → ℕ → Option Sentence
access_to os o x = option_and_then
    (λ s. option_map (sentence.access x) (numbered_in s o)) (shape_at os x)

-- what a command says of these objects; `None` if it says nothing, or is about none of them
abbrev pub numbered : PlainObjects → Command → Option Sentence
numbered os command.nothing = None
numbered os command.bad = None
numbered os (command.declare name shape) = Some sentence.declare
numbered os (command.enter k) = Some (sentence.begin (opening.Enter k))
numbered os command.coenter = Some (sentence.begin opening.Coenter)
numbered os (command.arm k) = Some (sentence.begin (opening.Arm k))
numbered os (command.test l name) =
    option_map (λ x. sentence.begin (opening.If l x)) (number_of name os)
numbered os command.leave = Some sentence.leave
numbered os command.abort_leave = Some sentence.abort_leave
numbered os command.leave_all = Some sentence.leave_all
numbered os command.«end» = Some sentence.«end»
numbered os (command.access name o) = option_and_then (access_to os o) (number_of name os)

-- one sentence, or none
abbrev pub one_or_none : Option Sentence → List Sentence
one_or_none None = []
one_or_none (Some s) = s ∷ []

-- what a line says of these objects
abbrev pub sentences_of : PlainObjects → List ℕ → List Sentence
sentences_of os line = one_or_none (numbered os (command_of (line_text line)))

-- an operation with this number for the name of its field or tag
abbrev pub with_number : ℕ → Operation (List ℕ) → Operation ℕ
with_number n (of_any o) = of_any o
with_number n (of_record name o) = of_record n o
with_number n (of_array o) = of_array o
with_number n (of_variant name o) = of_variant n o
