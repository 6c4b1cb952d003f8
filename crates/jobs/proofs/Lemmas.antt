-- The proofs behind Theorems.
pub mod Scheduled
