-- The laws that the proofs share, by subject.
pub mod Table
pub mod Rule
pub mod Closest
pub mod Nearest
pub mod Entries
