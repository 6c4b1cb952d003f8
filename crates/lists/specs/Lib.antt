-- Each subject is one file of definitions and one of the laws that follow from them.
-- Laws, lemmas and theorems stand in proofs/.
pub mod Tests
pub mod Stores
pub mod Counting
pub mod Blocks
pub mod Sorting
