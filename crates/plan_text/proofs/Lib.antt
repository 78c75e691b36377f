-- The laws that the functions' proofs cite.
pub mod Plans
pub mod Reports
pub mod Unique
