-- The laws that the proofs share, by subject, and the theorems.
pub mod Constants
pub mod Samples
pub mod Steps
pub mod Tests
pub mod Bytes
pub mod Theorems
