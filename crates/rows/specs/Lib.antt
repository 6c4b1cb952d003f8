-- Read Rows first. Laws proves what follows from it.
-- Laws, lemmas and theorems stand in proofs/.
pub mod Rows
