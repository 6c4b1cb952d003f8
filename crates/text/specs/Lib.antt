-- Read Text first: it is what the other crates say. Laws proves what follows from it.
-- Laws, lemmas and theorems stand in proofs/.
pub mod Text
