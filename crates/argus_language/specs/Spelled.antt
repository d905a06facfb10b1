-- The lines that spell steps, with numbers in place of names.
use Rattle.std.specs.Prelude.{ℕ, List, [], ◌∷◌, ◌++◌}
use Rattle.argus_contents.specs.{Change.PlainChange, declared.query.Query.Query}
use Rattle.argus_contents.specs.Change as change
use Rattle.argus_contents.specs.declared.query.Query.TheVariants as query
use Rattle.argus_texts.specs.{Spelling.spelling, ContentSpelling.content_spelling}
use Rattle.argus_language.specs.Operation.{Operation, of_any, of_record, of_array, of_variant}
use Rattle.argus_language.specs.{PlainStep.{SimpleStep, PlainStep, PlainSteps}, declared.block_kind.BlockKind.BlockKind}
use Rattle.argus_language.specs.Operation as operation
use Rattle.argus_language.specs.PlainStep as part
use Rattle.argus_language.specs.declared.block_kind.BlockKind.TheVariants as opening

-- a line that says something, with numbers in place of names
pub data Sentence : Type 0 where
  declare : Sentence
  access : ℕ → Operation ℕ → Sentence
  leave : Sentence
  abort_leave : Sentence
  leave_all : Sentence
  begin : BlockKind → Sentence
  «end» : Sentence

-- the operation that is a query
abbrev pub query_words : Query → Operation ℕ
query_words query.Whole = of_any operation.read
query_words (query.Field f) = of_record f operation.get
query_words query.Low = of_array operation.low
query_words query.High = of_array operation.high
query_words query.Size = of_array operation.size
query_words (query.Fetch i) = of_array (operation.fetch i)
query_words query.Bottom = of_array operation.bottom
query_words query.Top = of_array operation.top
query_words (query.IsTag t) = of_variant t operation.is_tag
query_words (query.TagValue t) = of_variant t operation.tag_value

-- the operation that is a change, its content or value in its written form
abbrev pub change_words : PlainChange → Operation ℕ
change_words (change.create c) = of_any (operation.create (content_spelling c))
change_words (change.set_field f v) = of_record f (operation.set (spelling v))
change_words (change.store i v) = of_array (operation.store i (spelling v))
change_words (change.addh v) = of_array (operation.addh (spelling v))
change_words (change.addl v) = of_array (operation.addl (spelling v))
change_words change.remh = of_array operation.remh
change_words change.reml = of_array operation.reml
change_words (change.set_low i) = of_array (operation.set_low i)
change_words (change.trim from count) = of_array (operation.trim from count)
change_words (change.change_tag t v) = of_variant t (operation.change_tag (spelling v))
change_words change.touch = of_any operation.touch

-- the line of a deed
abbrev pub sentence : SimpleStep → Sentence
sentence part.declare = declare
sentence (part.ask x q) = access x (query_words q)
sentence (part.alter x c) = access x (change_words c)
sentence part.leave = leave
sentence part.abort_leave = abort_leave
sentence part.leave_all = leave_all

-- the line that closes what began with this line: none closes an arm, which goes on to the next arm
-- or to the end of its coenter
abbrev pub closing : BlockKind → List Sentence
closing (opening.Arm k) = []
closing o = «end» ∷ []

abbrev mutual
  -- the lines of a step: a block is its first line, the lines of its steps, and its last
  pub lines_of_part : PlainStep → List Sentence
  lines_of_part (part.simple d) = sentence d ∷ []
  lines_of_part (part.block o ps) = begin o ∷ (lines_of_parts ps ++ closing o)

  -- the lines of steps, one after another
  pub lines_of_parts : PlainSteps → List Sentence
  lines_of_parts part.none = []
  lines_of_parts (part.more p ps) = lines_of_part p ++ lines_of_parts ps
