-- The laws that the functions' proofs cite.
pub mod Powers
pub mod Theorems
