-- The laws that the proofs share, by subject.
pub mod Cells
pub mod Prepared
pub mod Batches
