-- The laws that the proofs share, by subject.
pub mod Scratch
