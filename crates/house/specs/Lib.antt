-- The definitions that contracts cite.
pub mod House
pub mod Rule
pub mod Entries
pub mod Rounding
