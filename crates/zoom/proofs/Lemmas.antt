-- The proofs behind Laws and behind the code's proofs.
pub mod Wheels
pub mod Roots
pub mod Rounding
