-- The definitions that contracts cite.
pub mod Lists
pub mod Pairs
pub mod Found
