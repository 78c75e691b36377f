-- The laws that the proofs share, by subject, and the theorems; `Theorems` is the one to open first.
pub mod Lengths
pub mod Window
pub mod Hearing
pub mod Unique
pub mod Theorems
