-- The laws that callers' proofs cite, by subject.
pub mod Rounding
pub mod Sizes
pub mod Stages
pub mod Words
pub mod Bits
pub mod Plain
pub mod Ends
pub mod Transforms
pub mod Fillings
pub mod Calls
pub mod Whole
pub mod Exact
pub mod Accepted
pub mod Theorems
