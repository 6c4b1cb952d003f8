-- The questions of a whole sheet, what is known of an accepted one, and what the jobs give; then what follows from them.
-- Laws, lemmas and theorems stand in proofs/.
pub mod Questions
pub mod Opened
pub mod Assembled
pub mod Accepted
