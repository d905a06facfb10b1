-- A cell and the lists of locks may go to another thread, and be looked at from there: as a set for `search`,
-- `crosses`.
use denote.Param.Send.{IsSend, IsSync, sendable}
use Rattle.argus_contents.proofs.Crossing as contents
use Rattle.argus_actions.proofs.Crossing as actions
use Rattle.argus_objects.specs.contracts.cell.Cell.{the_row as cell_row}
use Rattle.argus_objects.specs.contracts.holdings.Holdings.{the_row as holdings_row}
use Rattle.argus_objects.specs.contracts.readers.Readers.{the_row as readers_row}
use Rattle.argus_objects.specs.contracts.version.Version.{the_row as version_row}
use Rattle.argus_objects.proofs.holdings.Holdings.TheSendSync as holdings

pub version_sends : IsSend version_row
version_sends = search (sendable, contents.crosses) depth 12

pub version_syncs : IsSync version_row
version_syncs = search (sendable, contents.crosses) depth 12

pub readers_sends : IsSend readers_row
readers_sends = search (sendable, contents.crosses) depth 12

pub readers_syncs : IsSync readers_row
readers_syncs = search (sendable, contents.crosses) depth 12

pub holdings_sends : IsSend holdings_row
holdings_sends = holdings.the_send

pub holdings_syncs : IsSync holdings_row
holdings_syncs = holdings.the_sync

pub cell_sends : IsSend cell_row
cell_sends = search (sendable, contents.crosses, version_sends, readers_sends) depth 12

pub cell_syncs : IsSync cell_row
cell_syncs = search (sendable, contents.crosses, version_syncs, readers_syncs) depth 12

pub ruleset crosses = (
  contents.crosses,
  actions.crosses,
  cell_sends,
  cell_syncs,
  readers_sends,
  readers_syncs,
  version_sends,
  version_syncs,
  holdings_sends,
  holdings_syncs,
)
