-- What is left completes the text.
use Rattle.std.proofs.Common.{◌≡◌, ◌++◌, drop, string_bytes}
use Rattle.argus_contents.specs.Ty.{plain_fields}
use Rattle.argus_texts.specs.{Grown.Grew, ShapeSpelling.{names_behind, names_inside}}
use Rattle.argus_texts.proofs.shape_writing.+shape_writing.Given as goal

abbrev pub invariant-append_names-loop-name : goal.invariant-append_names-loop-name
invariant-append_names-loop-name l = record {
  grew : Grew (string_bytes l.fn.out) (string_bytes l.out);
  completes : string_bytes l.out ++ names_behind (plain_fields (drop l.name-index l.others))
      ≡ string_bytes l.fn.out ++ names_inside (plain_fields l.fn.names);
}
