-- The laws that callers' proofs cite.
pub mod Bounds
pub mod Planning
pub mod Records
pub mod Theorems
pub mod Unique
