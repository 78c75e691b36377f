-- The definitions that contracts cite.
pub mod Turns
pub mod Calls
