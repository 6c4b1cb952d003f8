-- The lemmas behind Laws, in the order in which they build on one another.
pub mod Asked
pub mod Turns
pub mod Parts
pub mod Codes
pub mod Laid
pub mod Entries
pub mod Joined
pub mod Places
pub mod Written
pub mod Filled
pub mod With
pub mod Refused
