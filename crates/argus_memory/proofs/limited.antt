-- What proofs of the allocator `Limited` have in common.
mod Calling
mod Resizing
