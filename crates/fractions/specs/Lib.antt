-- Read Order first: it is what the other crates say. Laws proves what follows from it, and Wide is about products of up to 96 bits.
-- Laws, lemmas and theorems stand in proofs/.
pub mod Order
pub mod Wide
