-- The laws that the proofs share, by subject, and the theorems; `Theorems` is the one to open first.
pub mod Sums
pub mod Step
pub mod Blocks
pub mod Verdicts
pub mod Theorems
pub mod Unique
pub mod ShutOut
