-- The questions of one part by itself; then what follows from them.
-- Laws, lemmas and theorems stand in proofs/.
pub mod Questions
