-- The definitions that contracts cite.
pub mod Steps
pub mod Parts
