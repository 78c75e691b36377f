-- The laws that the proofs share, by subject.
pub mod Flat
pub mod Passes
pub mod Signs
pub mod Unique
