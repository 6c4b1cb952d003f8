-- Lines is what is printed of each mark. Listed is what the code says of its buffers; Laws has what follows.
-- Laws, lemmas and theorems stand in proofs/.
pub mod Lines
pub mod Listed
