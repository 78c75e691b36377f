-- The definitions that theorems cite.
pub mod Sizes
pub mod Bits
pub mod Whole
