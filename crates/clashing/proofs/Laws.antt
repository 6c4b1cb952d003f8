-- What question 8 says of a record, what a clash is, and that nobody who is left out clashes: the laws behind the contracts, and for the judge.
pub mod Right
pub mod Clash
pub mod Cuts
