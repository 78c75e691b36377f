-- The theorems, by subject.
pub mod Cases
pub mod ShutOut
