-- The definitions that contracts cite.
pub mod Lines
pub mod Growing
pub mod Inside
