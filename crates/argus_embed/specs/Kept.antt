-- The text that is kept.
use Rattle.std.specs.Prelude.{Bool, List, None, Option, Some, drop, false, length, map, true, ℕ, ◌++◌, ◌<◌, ◌≡◌, ◌≤◌}
use Rattle.argus_journal.specs.{EntrySpelling.reply_spelling, Reply.plain_reply}
use Rattle.argus_embed.specs.{Embedded.{reply_lines, reply_text}, declared.kept_answer.KeptAnswer.KeptAnswer}
use Rattle.argus_embed.specs.declared.kept_answer.KeptAnswer.TheVariants as kept

-- the text of the reply, a line for each text of the replies, the text itself, or the reply as its
-- line has it
abbrev pub kept_text : KeptAnswer → Option (List ℕ)
kept_text kept.Nothing = None
kept_text (kept.Reply reply) = reply_text (plain_reply reply)
kept_text (kept.Replies replies) = Some (reply_lines (map plain_reply replies.items))
kept_text (kept.Text text) = Some text.items
kept_text (kept.Given reply) = Some (reply_spelling (plain_reply reply))

-- the bytes are at the front of the room, and the rest of the room is as it was; if they don't fit, all of it is
abbrev pub IsPut : List ℕ → List ℕ → List ℕ → Type 0
IsPut bytes old new =
    (length bytes ≤ length old → new ≡ bytes ++ drop (length bytes) old)
    × (length old < length bytes → new ≡ old)

-- the size of the text, which is put into the room if there is one
abbrev pub IsCopied : Option (List ℕ) → Option ℕ → List ℕ → List ℕ → Type 0
IsCopied (Some text) (Some size) old new = (size ≡ length text) × IsPut text old new
IsCopied None None old new = new ≡ old
IsCopied (Some text) None old new = ⊥
IsCopied None (Some size) old new = ⊥

-- the text was appended, if there is one
abbrev pub IsAppended : Option (List ℕ) → Bool → List ℕ → List ℕ → Type 0
IsAppended (Some text) true old new = new ≡ old ++ text
IsAppended None false old new = new ≡ old
IsAppended (Some text) false old new = ⊥
IsAppended None true old new = ⊥
