-- The definitions that the theorems cite.
pub mod Table
pub mod Scale
pub mod Series
