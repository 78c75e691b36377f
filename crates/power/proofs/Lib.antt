-- The laws that the proofs share, by subject.
pub mod Sums
pub mod Unique
