-- What a line says: its command with the command's words and texts.
use Rattle.std.specs.Prelude.{ℕ, ℤ, Bool, false, ◌&&◌, ◌||◌, ◌==◌, not, if◌then◌else◌, List, [], ◌∷◌, codes, Option}
use Rattle.std.specs.{Prelude.{Some, None}, Option.{option_and_then, option_map}, Str.{bytes_eq, is_utf8}}
use Rattle.argus_contents.specs.Name.{is_name}
use Rattle.argus_language.specs.{Int.int_of, Lines.{is_empty, is_word, word, others}, declared.lock.Lock.Lock}
use Rattle.argus_language.specs.Operation.{AnyOperation, create, read, touch, get, set, ArrayOperation, low, high, size}
use Rattle.argus_language.specs.Operation.{bottom, top, fetch, store, addh, addl, remh, reml, set_low, trim, is_tag}
use Rattle.argus_language.specs.Operation.{tag_value, change_tag, Operation, of_any, of_record, of_array, of_variant}
use Rattle.argus_language.specs.declared.action_kind.ActionKind.{ActionKind}
use Rattle.argus_language.specs.declared.action_kind.ActionKind.TheVariants as kind
use Rattle.argus_language.specs.declared.lock.Lock.TheVariants as lock

-- what a line says; names and texts are their bytes
pub data Command : Type 0 where
  nothing : Command
  bad : Command
  declare : List ℕ → List ℕ → Command
  enter : ActionKind → Command
  coenter : Command
  arm : ActionKind → Command
  test : Lock → List ℕ → Command
  leave : Command
  abort_leave : Command
  leave_all : Command
  «end» : Command
  access : List ℕ → Operation (List ℕ) → Command

-- a command without arguments, if no word comes after it
abbrev pub alone : {A : Type 0} → List ℕ → A → Option A
alone rest x = if is_empty rest then Some x else None

-- what a word says with the text after it, which isn't empty
abbrev pub with_text : {A : Type 0} → List ℕ → (List ℕ → A) → Option A
with_text rest f = if is_empty rest then None else Some (f rest)

-- what a word says with the name after it, and no more words
abbrev pub with_name : {A : Type 0} → List ℕ → (List ℕ → A) → Option A
with_name rest f = if is_name rest then Some (f rest) else None

-- what a word says with the name and the text after it
abbrev pub with_name_and_text : {A : Type 0} → List ℕ → (List ℕ → List ℕ → A) → Option A
with_name_and_text rest f = if is_name (word rest)
    && not (is_empty (others rest)) then Some (f (word rest) (others rest)) else None

-- what a word says with the int and the text after it
abbrev pub with_int_and_text : {A : Type 0} → List ℕ → (ℤ → List ℕ → A) → Option A
with_int_and_text rest f = option_and_then (λ i. with_text (others rest) (f i)) (int_of (word rest))

-- what a word says with the two ints after it
abbrev pub with_ints : {A : Type 0} → List ℕ → (ℤ → ℤ → A) → Option A
with_ints rest f =
    option_and_then (λ i. option_map (f i) (int_of (others rest))) (int_of (word rest))

-- the operation on any object that a verb says with the words after the object's name
abbrev pub any_operation : List ℕ → List ℕ → Option AnyOperation
any_operation verb rest = if bytes_eq verb (codes "create") then with_text rest create else
    (if bytes_eq verb (codes "read") then alone rest read else
    (if bytes_eq verb (codes "touch") then alone rest touch else None))

-- the operation on a field of a record
abbrev pub record_operation : List ℕ → List ℕ → Option (Operation (List ℕ))
record_operation verb rest =
    if bytes_eq verb (codes "get") then with_name rest (λ field. of_record field get) else
    (if bytes_eq verb (codes "set") then with_name_and_text rest
    (λ field text. of_record field (set text)) else None)

-- the operation on an array that needs no more words
abbrev pub short_array_operation : List ℕ → Option ArrayOperation
short_array_operation verb = if bytes_eq verb (codes "low") then Some low else
    (if bytes_eq verb (codes "high") then Some high else
    (if bytes_eq verb (codes "size") then Some size else
    (if bytes_eq verb (codes "bottom") then Some bottom else
    (if bytes_eq verb (codes "top") then Some top else
    (if bytes_eq verb (codes "remh") then Some remh else
    (if bytes_eq verb (codes "reml") then Some reml else None))))))

-- the operation on an array that needs an index, a bound or a value
abbrev pub long_array_operation : List ℕ → List ℕ → Option ArrayOperation
long_array_operation verb rest =
    if bytes_eq verb (codes "fetch") then option_map fetch (int_of rest) else
    (if bytes_eq verb (codes "store") then with_int_and_text rest store else
    (if bytes_eq verb (codes "addh") then with_text rest addh else
    (if bytes_eq verb (codes "addl") then with_text rest addl else
    (if bytes_eq verb (codes "set_low") then option_map set_low (int_of rest) else
    (if bytes_eq verb (codes "trim") then with_ints rest trim else None)))))

-- the operation on an array
abbrev pub array_operation : List ℕ → List ℕ → Option ArrayOperation
array_operation verb rest = elim (short_array_operation verb) [
  | Some o ↦ alone rest o
  | None ↦ long_array_operation verb rest
]

-- the operation on a variant, with a tag
abbrev pub variant_operation : List ℕ → List ℕ → Option (Operation (List ℕ))
variant_operation verb rest =
    if bytes_eq verb (codes "is_tag") then with_name rest (λ tag. of_variant tag is_tag) else
    (if bytes_eq verb (codes "tag_value") then with_name rest (λ tag. of_variant tag tag_value) else
    (if bytes_eq verb (codes "change_tag") then with_name_and_text rest
    (λ tag text. of_variant tag (change_tag text)) else None))

-- the first of the two, if there is one, otherwise the second
abbrev pub first_of : {A : Type 0} → Option A → Option A → Option A
first_of (Some x) o = Some x
first_of None o = o

-- the operation that a verb says with the words after the object's name
abbrev pub operation : List ℕ → List ℕ → Option (Operation (List ℕ))
operation verb rest = first_of (record_operation verb rest)
    (first_of (option_map of_any (any_operation verb rest))
    (first_of (option_map of_array (array_operation verb rest)) (variant_operation verb rest)))

-- what is said, and `bad` if nothing is
abbrev pub or_bad : Option Command → Command
or_bad (Some c) = c
or_bad None = bad

-- an access: a verb, the object's name and the operation's words
abbrev pub accessing : List ℕ → List ℕ → Command
accessing verb rest = if is_name (word rest) then or_bad
    (option_map (access (word rest)) (operation verb (others rest))) else bad

-- a declaration: a name, and one word
abbrev pub declaring : List ℕ → Command
declaring rest =
    if is_name (word rest) && is_word (others rest) then declare (word rest) (others rest) else bad

-- what kind of action the word after `enter` says
abbrev pub entering : List ℕ → Command
entering rest = if bytes_eq rest (codes "topaction") then enter kind.Topaction else
    (if bytes_eq rest (codes "action") then enter kind.Subaction else bad)

-- what is tested: a lock, and the object's name
abbrev pub testing : List ℕ → Command
testing rest = if bytes_eq (word rest) (codes "test_read") then or_bad
    (with_name (others rest) (test lock.Read)) else
    (if bytes_eq (word rest) (codes "test_write") then or_bad
    (with_name (others rest) (test lock.Write)) else bad)

-- what is left
abbrev pub leaving : List ℕ → Command
leaving rest =
    if is_empty rest then leave else (if bytes_eq rest (codes "all") then leave_all else bad)

-- what a line says, by its first word and those after it
abbrev pub command : List ℕ → List ℕ → Command
command verb rest = if bytes_eq verb (codes "declare") then declaring rest else
    (if bytes_eq verb (codes "enter") then entering rest else
    (if bytes_eq verb (codes "coenter") then or_bad (alone rest coenter) else
    (if bytes_eq verb (codes "topaction") then or_bad (alone rest (arm kind.Topaction)) else
    (if bytes_eq verb (codes "action") then or_bad (alone rest (arm kind.Subaction)) else
    (if bytes_eq verb (codes "if") then testing rest else
    (if bytes_eq verb (codes "leave") then leaving rest else
    (if bytes_eq verb (codes "abort") then (if bytes_eq rest (codes "leave") then abort_leave else
    bad) else (if bytes_eq verb (codes "end") then or_bad (alone rest «end») else
    accessing verb rest))))))))

-- a comment begins with `#`
abbrev pub is_comment : List ℕ → Bool
is_comment [] = false
is_comment (b ∷ bs) = b == 35

-- what a text says: nothing if it is empty or a comment
abbrev pub command_of_text : List ℕ → Command
command_of_text text =
    if is_empty text || is_comment text then nothing else command (word text) (others text)

-- what the bytes of a line say, without blanks and line end; a line that isn't UTF-8 is bad, also
-- as a comment
abbrev pub command_of : List ℕ → Command
command_of bytes = if is_utf8 bytes then command_of_text bytes else bad
