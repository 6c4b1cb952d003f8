-- The proofs behind Laws and behind the code's proofs.
pub mod Stops
pub mod Cells
pub mod Tallies
pub mod Bytes
pub mod Adding
