-- What is left completes the text.
use Rattle.std.proofs.Common.{drop, map, string_bytes, ◌++◌, ◌≡◌}
use Rattle.argus_journal.specs.{Journal.{entries_of, opening_of}, JournalFacts.visible_to}
use Rattle.argus_objects.specs.declared.version.Version.{Version}
use Rattle.argus_listings.specs.Listing.{version_lines}
use Rattle.argus_listings.proofs.auditing.append_versions_again.Given as goal

abbrev pub invariant-loop-version : goal.invariant-loop-version
invariant-loop-version l =
    string_bytes l.text ++ version_lines l.name (map (λ (v : Version). (
      v.holder.0,
      visible_to (opening_of l.journal) (entries_of l.journal) v.holder.0 l.o.0,
    )) (drop l.version-index l.versions))
    ≡ string_bytes l.fn.text ++ version_lines l.name (map (λ (v : Version). (
      v.holder.0,
      visible_to (opening_of l.journal) (entries_of l.journal) v.holder.0 l.o.0,
    )) l.versions)
