-- The laws that the proofs share, by subject.
pub mod Scan
pub mod Squares
