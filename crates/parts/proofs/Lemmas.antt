-- The lemmas behind Laws, in the order in which they build on one another.
pub mod Numbered
pub mod Deciding
pub mod Records
pub mod Ranges
