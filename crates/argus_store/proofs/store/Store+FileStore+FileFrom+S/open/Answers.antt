use Rattle.sqlite.specs.Files.{file_state}
use Rattle.argus_store.proofs.Restarts.{opens_with}
use Rattle.argus_store.proofs.store.Store+FileStore+FileFrom+S.open.Goals as goal

pub returns-in-Ok : goal.returns-in-Ok
returns-in-Ok g c j files clean =
    let opened = c.in-Ok.ensures.opened clean in
    opens_with _ (file_state c.in-Ok.conn) j files (c.in-Ok.ensures.found clean) opened.0 opened.1
