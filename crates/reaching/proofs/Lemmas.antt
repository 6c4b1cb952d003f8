-- The lemmas behind Laws and the proofs, in the order in which they build on one another.
pub mod Places
pub mod Gaps
pub mod Edges
pub mod Turned
pub mod Reached
