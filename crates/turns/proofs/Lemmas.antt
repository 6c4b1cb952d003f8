-- The proofs behind Laws and behind the code's proofs.
pub mod Whole
pub mod Quarters
