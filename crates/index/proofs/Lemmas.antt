-- The lemmas behind Laws, in the order in which they build on one another.
pub mod Separated
pub mod Trees
pub mod Unique
pub mod TreeOf
pub mod Beats
pub mod Blocks
pub mod Keys
pub mod Findings
pub mod Entries
pub mod Question9
pub mod Search
