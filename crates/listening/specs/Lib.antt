-- The definitions that contracts cite.
pub mod Lengths
pub mod Block
