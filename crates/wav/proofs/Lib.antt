-- The laws that the proofs share, by subject, and the theorems; `Theorems` is the one to open first.
pub mod Calls
pub mod Files
pub mod Plain
pub mod Unique
pub mod Theorems
pub mod Listed
