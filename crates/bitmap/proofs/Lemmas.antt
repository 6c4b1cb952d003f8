-- The lemmas behind Laws, in the order in which they build on one another.
pub mod Bits
pub mod Counts
pub mod Maps
pub mod Walks
