-- The definitions that contracts cite.
pub mod Exports
pub mod Calls
