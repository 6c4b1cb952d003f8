-- Read Log and Questions first, and Packed of the crate `packed`: they say what a log is, what turning asks and what it writes. Theorems has what follows.
-- Laws, lemmas and theorems stand in proofs/.
pub mod Log
pub mod Questions
pub mod Right
