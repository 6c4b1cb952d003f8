-- To be believed: Shown and Questions. Turning says what the code asks in their place; Laws and Lemmas are proofs.
-- Laws, lemmas and theorems stand in proofs/.
pub mod Shown
pub mod Questions
pub mod Turning
