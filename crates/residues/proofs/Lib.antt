-- The laws that the proofs share, by subject.
pub mod Iteration
pub mod Arms
pub mod Stage
pub mod Runs
