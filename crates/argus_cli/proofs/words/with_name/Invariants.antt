use Rattle.std.specs.Prelude.{map, string_bytes, take, ◌∷◌, ◌≡◌}
use Rattle.argus_cli.proofs.words.with_name.Given as goal

abbrev pub invariant-loop-word : goal.invariant-loop-word
invariant-loop-word l =
    map (λ word. word.now) l.all.items ≡ l.name ∷ map string_bytes (take l.word-index l.words)
