-- The lemmas behind the code, in the order in which they build on one another.
pub mod Frame
pub mod Numbers
pub mod Reorder
pub mod Limits
pub mod Best
pub mod Part
pub mod Build
pub mod Result
