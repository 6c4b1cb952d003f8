-- The lemmas behind Theorems and the contracts, in the order in which they build on one another.
pub mod Judged
pub mod Ours
pub mod Bytes
pub mod Clear
pub mod Search
pub mod Listing
pub mod Filling
