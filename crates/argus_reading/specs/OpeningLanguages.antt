-- The languages of an opening's lines, after their first word.
use Rattle.std.specs.Prelude.{List, None, Option, Some, codes, ℕ, ◌≡◌}
use Rattle.argus_contents.specs.{Content.PlainContent, declared.limits.TheConstants.{MAX_ACTIONS, MAX_VALUE_DEPTH}}
use Rattle.argus_journal.specs.declared.limits.TheConstants.{MAX_FIRST_ENTRY}
use Rattle.argus_reading.specs.{Combined.Worded, Operations.{Ids, blank}}
use Rattle.argus_texts.specs.{ContentSpelling.{PartsWithin, content_spelling}, Language.Language, ShapeLanguages.Shapes}
use Rattle.argus_texts.specs.Languages.{Numbers, Pairs}

-- how many entries and actions the opening stands for: `entries 11 actions 3`
abbrev pub FoldedLines : Language
FoldedLines = Pairs (Worded (codes "entries ") (Numbers 1 MAX_FIRST_ENTRY)) blank
    (Worded (codes "actions ") (Numbers 0 MAX_ACTIONS))

-- a content as it is written; `absent` if there is none
abbrev pub content_text : Option PlainContent → List ℕ
content_text None = codes "absent"
content_text (Some c) = content_spelling c

-- no content, or one whose values have a depth of at most 16
abbrev pub IsReadableContent : Option PlainContent → Type 0
IsReadableContent None = Unit {0}
IsReadableContent (Some c) = PartsWithin MAX_VALUE_DEPTH c

-- contents, or the word `absent`
abbrev pub OptionContents : Language
OptionContents = record {
  Thing = Option PlainContent;
  Good = IsReadableContent;
  form = content_text;
  Ends = λ c rest. Unit {0};
}

-- objects with their shapes and contents: `o0 atomic_record[balance:int] {7}`
abbrev pub ObjectLines : Language
ObjectLines = Pairs (Worded (codes "o") Ids) blank (Pairs Shapes blank OptionContents)

-- the text is how the language writes this thing, which it allows
pub record IsForm (L : Language) (thing : L.Thing) (text : List ℕ) : Type 0 where
  pub good : L.Good thing
  pub is : text ≡ L.form thing
