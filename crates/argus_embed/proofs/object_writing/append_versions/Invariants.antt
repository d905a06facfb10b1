-- What is left completes the text.
use Rattle.std.proofs.Common.{drop, map, string_bytes, ◌++◌, ◌≡◌}
use Rattle.argus_embed.specs.Questions.{seen_lines}
use Rattle.argus_guardian.specs.Objects.{version_pair}
use Rattle.argus_embed.proofs.object_writing.append_versions.Given as goal

abbrev pub invariant-loop-version : goal.invariant-loop-version
invariant-loop-version l =
    string_bytes l.text ++ seen_lines (map version_pair (drop l.version-index l.versions))
    ≡ string_bytes l.fn.text ++ seen_lines (map version_pair l.versions)
