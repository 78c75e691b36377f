-- The laws that the proofs share, and that two answers which meet a promise are equal.
pub mod Answers
pub mod Crossing
pub mod Unique
