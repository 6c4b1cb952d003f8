-- What the proofs of the search cite, in the order in which they build on one another.
pub mod Reaching
pub mod Bits
pub mod Search
pub mod Views
