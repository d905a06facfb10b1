pub use Rattle.argus_contents.proofs.Crossing
pub use Rattle.argus_memory.proofs.Crossing as MemoryCrossing
pub use Rattle.argus_memory.proofs.heap.Heap.TheSendSync as HeapCrossing
