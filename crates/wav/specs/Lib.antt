-- The definitions that contracts cite.
pub mod Header
pub mod Wav
