-- The definitions that contracts and theorems cite.
pub mod Sums
pub mod Calls
