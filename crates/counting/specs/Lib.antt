-- To be believed: Lives, who lives at a zoom with popups heeded; Counts, request 12. Steps is what the code's own steps keep. To be used: Laws.
-- Laws, lemmas and theorems stand in proofs/.
pub mod Lives
pub mod Counts
pub mod Steps
