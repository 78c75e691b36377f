-- The laws that the proofs share, by subject.
pub mod Writes
pub mod Places
pub mod Batches
