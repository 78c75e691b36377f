-- The definitions that contracts cite.
pub mod Tokens
pub mod Reading
