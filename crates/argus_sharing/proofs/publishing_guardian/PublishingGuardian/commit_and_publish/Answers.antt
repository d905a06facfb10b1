-- What a commit adds was pending, and is there behind a publish, whether that found memory or not.
use Rattle.argus_core.specs.ReadyCommit.{added_by_call}
use Rattle.argus_entries.specs.Call.{commit}
use Rattle.argus_sharing.proofs.Follow.{goes_on_published}
use Rattle.argus_sharing.proofs.publishing_guardian.PublishingGuardian.commit_and_publish.Goals as goal

pub returns-clause-made : goal.returns-clause-made
returns-clause-made g c =
    let was = c.args.self.now in (
      c.in_ok-reply.ensures.ok.0,
      goes_on_published c.publish-published.result was.board c.commit.new.self.board c.publish-published.new.self
          (added_by_call was.guardian (commit c.args.a.0)) c.commit.ensures.published c.in_ok-reply.ensures.ok.1
          c.publish-published.ensures.ok c.publish-published.ensures.err,
    )
