-- A line at the front of a text: how many bytes it has, and what a fault says of it.
use Rattle.std.proofs.Common.{List, [], ap, append_assoc, arith, length, length-append, refl, take, ℕ, ◌+◌, ◌++◌, ◌-◌}
use Rattle.std.proofs.{Common.{◌<◌, ◌^◌, ◌∙◌, ◌∷◌, ◌≡◌}, Math.Seq.take-append_seam}
use Rattle.argus_entries.specs.{Entry.PlainEntry, EntrySpelling.{entry_line, entry_spelling}}
use Rattle.argus_journal.specs.JournalView.{JournalView, next_entry}
use Rattle.argus_resume.specs.{FrontLine.{HasFrontLine, IsFrontError, end_of_error}, Lines.IsLineError, Stage.SaysOf}
use Rattle.argus_resume.specs.Taking.{EndsTaking, HasNoFeed, IsFirstLine, line_count}
use Rattle.argus_resume.specs.declared.line_error.LineError.{LineError}
use Rattle.argus_resume.proofs.{Clean.entry_clean, Feeds.{count-append, count_none}}

-- the line is what is in front of the rest
pub line_taken : (number : ℕ) (entry : PlainEntry) (text rest : List ℕ) → HasFrontLine number entry text rest
    → take (length text - length rest) text ≡ entry_line number entry
line_taken number entry text rest h =
    let line = entry_line number entry in
    let size : length text - length rest ≡ length line = omega (arith, ap length h.is ∙ length-append line rest) in
    ap (λ n. take n text) size ∙ ap (λ t. take (length line) t) h.is ∙ take-append_seam line rest

no_feed : (number : ℕ) (entry : PlainEntry) (text rest : List ℕ) → number < 2 ^ 64
    → HasFrontLine number entry text rest → HasNoFeed (entry_spelling number entry)
no_feed number entry text rest n h = (entry_clean number entry n h.readable).0

-- it is the first line of the text
pub line_first : (number : ℕ) (entry : PlainEntry) (text rest : List ℕ) → number < 2 ^ 64
    → HasFrontLine number entry text rest → IsFirstLine (length text - length rest) text
line_first number entry text rest n h =
    let front = entry_spelling number entry in
    let size = ap length h.is ∙ length-append (entry_line number entry) rest
    ∙ ap (λ k. k + length rest) (length-append front (10 ∷ [])) in
    record {
      some = omega (arith, size);
      within = omega arith;
      one = ap line_count (line_taken number entry text rest h) ∙ count-append front (10 ∷ [])
          ∙ ap (λ k. k + 1) (count_none front (no_feed number entry text rest n h));
    }

-- what an error says of the first line of a text, it says of the text
pub text_error : (journal : JournalView) (text line more : List ℕ) (e : LineError) → text ≡ line ++ 10 ∷ more
    → HasNoFeed line → IsLineError e journal line → IsFrontError e journal text
text_error journal text line more p is whole says = grind arith

-- and what it says of the line of an entry
pub line_error : (journal : JournalView) (entry : PlainEntry) (text rest : List ℕ) (e : LineError)
    → next_entry journal < 2 ^ 64 → HasFrontLine (next_entry journal) entry text rest → SaysOf e journal entry
    → IsFrontError e journal text
line_error journal entry text rest e n h says =
    let front = entry_spelling (next_entry journal) entry in
    text_error journal text front rest e (h.is ∙ append_assoc front (10 ∷ []) rest)
    (no_feed (next_entry journal) entry text rest n h) (says front (record { readable = h.readable; is = refl }))

-- an error of the first line ends the taking
pub error_ends : (journal : JournalView) (text : List ℕ) (e : LineError) → IsFrontError e journal text
    → EndsTaking (end_of_error e) journal text
error_ends journal text p h = grind arith
