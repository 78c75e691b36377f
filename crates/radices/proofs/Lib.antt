-- The laws that callers' proofs cite.
pub mod Lists
pub mod Products
