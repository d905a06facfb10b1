-- What passes no limit has room: a command begins with the word by which the limits are tested.
use Rattle.std.proofs.Common.{◌≡◌, ℕ, ◌<◌, nat_le, Bool, true, false, ◌&&◌, ◌||◌, cond, List, length, Option, Some}
use Rattle.std.proofs.{Common.{None, codes, ap, arith}, lemmas.Bool.{and_parts, or_parts}}
use Rattle.std.specs.{Option.option_map, Str.{bytes_eq, is_utf8}}
use Rattle.argus_contents.specs.{Name.is_name, declared.limits.TheConstants.MAX_OBJECTS}
use Rattle.argus_language.specs.Command.{Command, accessing, bad, command, declaring, entering, is_comment, leaving}
use Rattle.argus_language.specs.{Command.{operation, or_bad, command_of, testing, command_of_text}, Levels.depth_of}
use Rattle.argus_language.specs.{Fault.{Position, is_too_long, opens_block}, Objects.PlainObjects, Lines.is_empty}
use Rattle.argus_language.specs.{Lines.{others, line_text, word}, Operation.Operation, Reading.IsWithinLimits}
use Rattle.argus_language.specs.declared.{level.Level.Level, limits.TheConstants.MAX_OPEN_BLOCKS}
use Rattle.argus_language.specs.Command as c
use Rattle.argus_language.specs.declared.action_kind.ActionKind.TheVariants as kind

-- a command that opens or declares something stands behind a verb that says so
abbrev pub VerbOpens : List ℕ → Command → Type 0
VerbOpens verb (c.enter k) = opens_block verb ≡ true
VerbOpens verb c.coenter = opens_block verb ≡ true
VerbOpens verb (c.test l name) = opens_block verb ≡ true
VerbOpens verb (c.declare name shape) = (bytes_eq verb (codes "declare") ≡ true) × (is_name name ≡ true)
VerbOpens verb x = Unit {0}

either : (P : Command → Type 0) (b : Bool) (x y : Command) → (b ≡ true → P x) → P y → P (cond b x y)
either p q x y f h = grind arith

either-said : (P : Command → Type 0) (b : Bool) (x : Command) → P x → P bad → P (or_bad (cond b (Some x) None))
either-said p q x h k = grind arith

second : (a b d : Bool) → b ≡ true → (a || (b || d)) ≡ true
second p b d e = grind arith

third : (a b d : Bool) → d ≡ true → (a || (b || d)) ≡ true
third p b d e = grind arith

module _ (verb rest : List ℕ) where
  declares : bytes_eq verb (codes "declare") ≡ true → VerbOpens verb (declaring rest)
  declares e = grind (arith, either, and_parts)

  enters : opens_block verb ≡ true → VerbOpens verb (entering rest)
  enters e = either (VerbOpens verb) (bytes_eq rest (codes "topaction")) (c.enter kind.Topaction) _ (λ h. e)
      (either (VerbOpens verb) (bytes_eq rest (codes "action")) (c.enter kind.Subaction) bad (λ h. e) tt)

  tests : opens_block verb ≡ true → VerbOpens verb (testing rest)
  tests e = grind (arith, either, either-said)

  leaves : VerbOpens verb (leaving rest)
  leaves = either (VerbOpens verb) (is_empty rest) c.leave _ (λ h. tt)
      (either (VerbOpens verb) (bytes_eq rest (codes "all")) c.leave_all bad (λ h. tt) tt)

  access-said : (name : List ℕ) (o : Option (Operation (List ℕ))) → VerbOpens verb (or_bad (option_map
      (c.access name) o))
  access-said name p = grind arith

  accesses : VerbOpens verb (accessing verb rest)
  accesses = either (VerbOpens verb) (is_name (word rest)) _ bad
      (λ h. access-said (word rest) (operation verb (others rest))) tt

  follows-command : VerbOpens verb (command verb rest)
  follows-command =
      let P : Command → Type 0 = VerbOpens verb in
      let e = bytes_eq verb (codes "enter") in
      let i = bytes_eq verb (codes "if") in
      either P (bytes_eq verb (codes "declare")) (declaring rest) _ declares
      (either P e (entering rest) _ (λ h. enters (ap (λ t. t || (bytes_eq verb (codes "coenter") || i)) h))
      (either P (bytes_eq verb (codes "coenter")) _ _
      (λ h. either-said P (is_empty rest) c.coenter (second e (bytes_eq verb (codes "coenter")) i h) tt)
      (either P (bytes_eq verb (codes "topaction")) _ _
      (λ h. either-said P (is_empty rest) (c.arm kind.Topaction) tt tt) (either P (bytes_eq verb (codes "action")) _ _
      (λ h. either-said P (is_empty rest) (c.arm kind.Subaction) tt tt)
      (either P i (testing rest) _ (λ h. tests (third e (bytes_eq verb (codes "coenter")) i h))
      (either P (bytes_eq verb (codes "leave")) (leaving rest) _ (λ h. leaves)
      (either P (bytes_eq verb (codes "abort")) _ _
      (λ h. either P (bytes_eq rest (codes "leave")) c.abort_leave bad (λ k. tt) tt)
      (either P (bytes_eq verb (codes "end")) _ _ (λ h. either-said P (is_empty rest) c.«end» tt tt) accesses))))))))

pub verb_opens : (text : List ℕ) → VerbOpens (word text) (command_of text)
verb_opens text =
    let P : Command → Type 0 = VerbOpens (word text) in
    either P (is_utf8 text) (command_of_text text) bad
    (λ h. either P (is_empty text || is_comment text) c.nothing _ (λ k. tt) (follows-command (word text) (others text)))
    tt

below : (m n : ℕ) (b : Bool) → (nat_le m n && b) ≡ false → b ≡ true → n < m
below m n b e h = grind arith

room-of : (x : Command) (verb : List ℕ) (ls : List Level) (os : PlainObjects)
    → (nat_le MAX_OPEN_BLOCKS (depth_of ls) && opens_block verb) ≡ false
    → (nat_le MAX_OBJECTS (length os.names) && bytes_eq verb (codes "declare")) ≡ false → VerbOpens verb x
    → IsWithinLimits x ls os
room-of p verb ls os e f h = grind (arith, below)

-- a line that passes no limit has room for what it says
pub has_room : (p : Position) (os : PlainObjects) (line : List ℕ) → is_too_long p (length os.names) line ≡ false
    → IsWithinLimits (command_of (line_text line)) p.levels os
has_room p os line e = grind (arith, or_parts, room-of, verb_opens)
