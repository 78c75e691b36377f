-- The laws that callers' proofs cite.
pub mod Merging
pub mod Weights
