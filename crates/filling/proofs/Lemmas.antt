-- The lemmas behind Theorems and the functions' proofs.
pub mod Filled
