-- The laws that the proofs share and callers cite.
pub mod Told
