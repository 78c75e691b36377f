-- The laws that the proofs share, by subject, and the theorems; `Theorems` is the one to open first.
pub mod Lookup
pub mod Index
pub mod Kernel
pub mod Calls
pub mod Theorems
pub mod Small
pub mod Unique
