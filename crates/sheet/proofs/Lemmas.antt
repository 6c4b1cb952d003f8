-- The lemmas behind Laws, in the order in which they build on one another.
pub mod Accepting
pub mod Opened
pub mod Whole
pub mod Assembling
