-- How many entries there are.
use Rattle.std.{proofs.Common.{arith, length-append, ◌≡◌, ◌≤◌}, specs.List.flat_map}
use Rattle.argus_journal.proofs.Chunked.{length_of_chunks}
use Rattle.argus_journal.proofs.chunks.Chunks.len.Goals as goal

pub returns-clause-len : goal.returns-clause-len
returns-clause-len c =
    let chunks = c.args.self.now in
    let full = length_of_chunks (λ chunk. chunk.items) chunks.full.items chunks.filled in
    let all = length-append (flat_map (λ chunk. chunk.items) chunks.full.items) chunks.last.items in
    let counted = chunks.counted in
    omega arith
