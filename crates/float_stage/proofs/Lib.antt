-- The laws that the proofs share, by subject.
pub mod First
pub mod Rounds
pub mod Widths
pub mod Works
