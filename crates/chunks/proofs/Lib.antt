-- The laws that the proofs share, by subject, and the theorems.
pub mod Going
pub mod Steps
pub mod Walks
pub mod Windows
pub mod Tight
