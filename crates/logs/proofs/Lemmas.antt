-- The lemmas behind Theorems and the functions' proofs, in the order in which they build on one another.
pub mod Right
pub mod Writing
pub mod Back
