-- The definitions that contracts cite.
pub mod Packs
pub mod Places
pub mod Twiddles
pub mod Parts
