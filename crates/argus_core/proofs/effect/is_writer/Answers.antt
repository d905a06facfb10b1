-- An action has a version exactly where one of it is found.
use Rattle.std.{proofs.Common.{ap, sym, ◌∙◌}, specs.Option.is_some}
use Rattle.argus_contents.specs.Content.{plain_option}
use Rattle.argus_core.proofs.Written.{has_where_found, some_mapped}
use Rattle.argus_objects.specs.Object.{versions_newest_first}
use Rattle.argus_core.proofs.effect.is_writer.Goals as goal

pub returns : goal.returns
returns c =
    c.is_some.ensures ∙ sym (some_mapped (λ content. plain_option content.now) c.version_of.result)
    ∙ ap is_some c.version_of.ensures ∙ has_where_found c.args.a (versions_newest_first c.args.versions.now)
