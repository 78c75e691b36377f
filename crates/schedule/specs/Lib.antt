-- The definitions that contracts cite.
pub mod Stage
pub mod Parts
pub mod Plans
pub mod Buffers
