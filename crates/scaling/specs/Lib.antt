-- The definitions that contracts cite.
pub mod Scaling
pub mod Parts
