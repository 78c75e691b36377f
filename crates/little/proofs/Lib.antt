-- The laws that callers' proofs cite.
pub mod Numbers
