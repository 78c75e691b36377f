-- The laws that the proofs share, by subject.
pub mod Parts
pub mod Steps
pub mod Order
pub mod Powers
pub mod Above
pub mod Least
pub mod Lowest
pub mod Theorems
