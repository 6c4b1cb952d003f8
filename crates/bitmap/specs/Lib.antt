-- To be believed: Map. Facts is what the contracts and the laws say; Laws is what the other crates cite.
-- Laws, lemmas and theorems stand in proofs/.
pub mod Map
pub mod Facts
