-- The questions of the bodies; then what follows from them.
-- Laws, lemmas and theorems stand in proofs/.
pub mod Questions
pub mod Fitting
pub mod Held
