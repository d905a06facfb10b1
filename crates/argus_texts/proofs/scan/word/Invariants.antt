-- The bytes of the word that were passed are those of the text.
use Rattle.std.proofs.Common.{◌≡◌, ◌++◌, take}
use Rattle.std.specs.Str.{IsUtf8}
use Rattle.argus_texts.proofs.scan.word.Given as goal

abbrev pub invariant-loop-byte : goal.invariant-loop-byte
invariant-loop-byte l = record { read : l.text ≡ take l.byte-index l.word ++ l.rest; utf8 : IsUtf8 l.rest }
