-- What is left completes the text.
use Rattle.std.proofs.Common.{◌≡◌, ◌++◌, ◌∷◌, [], length, string_bytes}
use Rattle.std.specs.Str.{IsUtf8}
use Rattle.argus_texts.specs.{Grown.Grew, Spelling.escaped}
use Rattle.argus_texts.proofs.writing.append_quoted.Given as goal

abbrev pub invariant-loop-first : goal.invariant-loop-first
invariant-loop-first l = record {
  grew : Grew (string_bytes l.fn.out) (string_bytes l.out);
  completes : string_bytes l.out ++ (escaped l.rest ++ 34 ∷ [])
      ≡ string_bytes l.fn.out ++ 34 ∷ (escaped l.text ++ 34 ∷ []);
  utf8 : IsUtf8 l.rest;
}

abbrev pub decreases-loop-first : goal.decreases-loop-first
decreases-loop-first l = length l.rest
