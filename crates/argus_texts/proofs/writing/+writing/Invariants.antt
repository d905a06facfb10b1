-- What is left completes the text.
use Rattle.std.proofs.Common.{◌≡◌, ◌++◌, drop, string_bytes}
use Rattle.argus_contents.specs.Value.{listed, plain_list}
use Rattle.argus_texts.specs.{Spelling.{inside, behind}, Grown.Grew}
use Rattle.argus_texts.proofs.writing.+writing.Given as goal

abbrev pub invariant-append_inside-loop-value : goal.invariant-append_inside-loop-value
invariant-append_inside-loop-value l = record {
  grew : Grew (string_bytes l.fn.out) (string_bytes l.out);
  completes : string_bytes l.out ++ behind l.close (listed (plain_list (drop l.value-index l.others)))
      ≡ string_bytes l.fn.out ++ inside l.close (listed (plain_list l.fn.values));
}
