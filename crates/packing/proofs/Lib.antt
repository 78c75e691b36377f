-- The laws that the proofs share, by subject.
pub mod Widths
pub mod Places
pub mod Lanes
pub mod Fill
pub mod Circle
pub mod Stage
pub mod Stages
pub mod Standing
