-- What an allocator knows of the place of its count.
use Rattle.std.specs.Prelude.{[]}
use base.Fml.{Fml, ffalse}
use denote.RawPtr.{Ptr, block_ptr, null_ptr}
use denote.Memory.{hidden_shr}
use Rattle.std.specs.contracts.sync.atomic.AtomicU64.{the_row as word}

-- an atomic word lies there, for as long as the program runs
abbrev pub lasts : Ptr → Fml
lasts (block_ptr b o) = hidden_shr word [] (record {}) b o
lasts null_ptr = ffalse
