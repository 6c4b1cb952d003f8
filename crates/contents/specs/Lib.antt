-- What a sheet is, how questions are put, and those of the contents; then what follows from them.
-- Laws, lemmas and theorems stand in proofs/.
pub mod Contents
pub mod Asking
pub mod Refusals
pub mod Questions
pub mod Laid
pub mod Places
