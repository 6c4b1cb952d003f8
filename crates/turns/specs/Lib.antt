-- To be believed: Turns; and Small, what the code asks for. To be used: Laws.
-- Laws, lemmas and theorems stand in proofs/.
pub mod Turns
pub mod Small
