-- The laws that the proofs share, by subject.
pub mod Stages
pub mod Transforms
