-- The laws that callers' proofs cite, by subject.
pub mod Cells
pub mod Strides
pub mod Fill
pub mod Sums
pub mod Plans
pub mod Buffers
