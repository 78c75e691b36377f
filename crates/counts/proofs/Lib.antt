-- The laws that callers' proofs cite.
pub mod Counts
pub mod Theorems
pub mod Unique
