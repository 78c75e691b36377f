-- The definitions that contracts cite.
pub mod Transforms
pub mod Parts
