-- The lemmas behind Theorems and the contracts, in the order in which they build on one another.
pub mod Pieces
pub mod Running
pub mod Reading
pub mod Rejoined
pub mod Writing
pub mod Beside
