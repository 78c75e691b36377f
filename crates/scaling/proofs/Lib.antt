-- The laws that callers' proofs cite.
pub mod Scaling
pub mod Theorems
pub mod Unique
