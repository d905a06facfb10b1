-- What is left completes the text.
use Rattle.std.proofs.Common.{drop, map, string_bytes, ◌++◌, ◌≡◌}
use Rattle.argus_core.specs.Objects.{version_pair}
use Rattle.argus_listings.specs.Listing.{version_lines}
use Rattle.argus_listings.proofs.stacking.append_each_version.Given as goal

abbrev pub invariant-loop-version : goal.invariant-loop-version
invariant-loop-version l =
    string_bytes l.text ++ version_lines l.name (map version_pair (drop l.version-index l.versions))
    ≡ string_bytes l.fn.text ++ version_lines l.name (map version_pair l.versions)
