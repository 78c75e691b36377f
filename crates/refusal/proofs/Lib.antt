-- The laws that callers' proofs cite.
pub mod Rows
pub mod Unique
