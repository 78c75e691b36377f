-- The laws that callers' proofs cite.
pub mod Basics
pub mod First
pub mod Found
pub mod Tables
pub mod Pasted
pub mod Pairs
