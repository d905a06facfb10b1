-- Accepted texts, and where a text stops being the beginning of one.
use Rattle.std.specs.Prelude.{◌≡◌, ℕ, ◌<◌, ◌≤◌, List, ◌++◌, length, take}
use Rattle.argus_contents.specs.{Value.PlainValue, Content.PlainContent, declared.limits.TheConstants.MAX_VALUE_DEPTH}
use Rattle.argus_texts.specs.{Spelling.{spelling, Within}, ContentSpelling.{content_spelling, PartsWithin}}
use Rattle.argus_texts.specs.declared.read_error.ReadError.{ReadError}
use Rattle.argus_texts.specs.declared.read_error.ReadError.TheVariants as error

-- text is the written form of a value of depth at most 16
pub record IsValueText (text : List ℕ) : Type 0 where
  pub value : PlainValue
  pub within : Within MAX_VALUE_DEPTH value
  pub is : text ≡ spelling value

-- text is the written form of a content whose values have depth at most 16 each
pub record IsContentText (text : List ℕ) : Type 0 where
  pub content : PlainContent
  pub within : PartsWithin MAX_VALUE_DEPTH content
  pub is : text ≡ content_spelling content

-- some accepted text begins like this
abbrev pub Begins : (List ℕ → Type 0) → List ℕ → Type 0
Begins Accepted front = (more : List ℕ) × Accepted (front ++ more)

-- text isn't accepted, and at is the length in bytes of the longest of its prefixes that begin an
-- accepted text
pub record IsFault (Accepted : List ℕ → Type 0) (text : List ℕ) (at : ℕ) : Type 0 where
  pub refused : Accepted text → ⊥
  pub within : at ≤ length text
  pub begins : Begins Accepted (take at text)
  pub longest : (n : ℕ) → at < n → n ≤ length text → Begins Accepted (take n text) → ⊥

-- P holds of the position of a fault; out of memory says nothing
abbrev pub OnFault : ReadError → (ℕ → Type 0) → Type 0
OnFault (error.Fault fault) P = P fault.at
OnFault error.Memory P = Unit {0}
