-- The definitions that theorems cite.
pub mod Cases
