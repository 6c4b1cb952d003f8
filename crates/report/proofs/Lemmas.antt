-- The proofs behind the code's proofs.
pub mod Removals
pub mod Printed
