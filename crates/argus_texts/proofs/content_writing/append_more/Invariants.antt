-- What is left completes the text.
use Rattle.std.proofs.Common.{◌≡◌, ◌++◌, drop, string_bytes}
use Rattle.argus_contents.specs.Value.{listed, plain_list}
use Rattle.argus_texts.specs.Grown.{Grew, commas}
use Rattle.argus_texts.proofs.content_writing.append_more.Given as goal

abbrev pub invariant-loop-value : goal.invariant-loop-value
invariant-loop-value l = record {
  grew : Grew (string_bytes l.fn.out) (string_bytes l.out);
  completes : string_bytes l.out ++ commas (listed (plain_list (drop l.value-index l.values)))
      ≡ string_bytes l.fn.out ++ commas (listed (plain_list l.values));
}
