-- Receipts that show a run and stand, each once, in a journal that began empty, are what workers leave.
use Rattle.std.proofs.{Common.{All, ap, arith, length, map, sum_by, ◌+◌, ◌∙◌, ◌≡◌, ◌≤◌}, lemmas.List.{Elements.All-weaker, Sums.sum_by-le, length-map, take-append-le, take_all}}
use Rattle.argus_cli.proofs.Settled.{as_many}
use Rattle.argus_commands.specs.Script.{plain_script}
use Rattle.argus_guardian.specs.Receipt.{plain_receipt}
use Rattle.argus_cli.proofs.running_by_workers.run_and_settle.Goals as goal

pub returns-then-is_from_start : goal.returns-then-is_from_start
returns-then-is_from_start g c =
    let script = plain_script c.args.script.now in
    let report = c.in-Ok.report in
    let receipts = map plain_receipt report.receipts.items in
    let left = c.in-Ok-settle.guardian in
    let fresh = c.is_from_start.ensures c.if-is_from_start.true in
    let unused : All (λ s. s.made ≡ 0) c.as_mut_slice-all.result.now =
    rw c.as_mut_slice-all.ensures.value c.requires.unused in
    let none = sum_by-le (λ s. s.made) 0 c.as_mut_slice-all.result.now
    (All-weaker (λ s. s.made ≡ 0) (λ s. s.made ≤ 0) (λ s e. omega arith) _ unused) in
    let seats : length c.run_shared.new.seats ≡ c.args.parts.seats.len = omega
    (arith, c.as_mut_slice-all.ensures.len) in
    let calls = ap (λ xs. sum_by (λ s. s.made) xs) (take-append-le c.args.parts.seats.len
    c.run_shared.new.seats _ (omega (arith, seats)) ∙ take_all _ c.run_shared.new.seats (omega (arith, seats))) in
    record {
      fresh = fresh;
      legal = c.journal_is_legal.ensures.legal;
      receipts = receipts;
      told = c.checked_runs_are_runs.ensures script receipts report.outcomes.items c.in-Ok.ensures.checked;
      outcomes = report.outcomes.items;
      checked = c.in-Ok.ensures.checked;
      stand = rw c.as_slice.ensures.value at c.in-Ok-settle.ensures.stand;
      apart = rw c.as_slice.ensures.value at c.in-Ok-settle.ensures.apart;
      count = length-map report.receipts.items plain_receipt
          ∙ as_many left.opening left.entries g.N.Sharing.start _ _ _ fresh c.requires.start (omega (arith, none)) c.in-Ok.ensures.made
          (c.in-Ok-settle.ensures.count ∙ ap (λ made. g.N.Sharing.start + made) calls);
    }
