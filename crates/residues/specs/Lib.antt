-- The definitions that contracts cite.
pub mod Residues
pub mod Parts
