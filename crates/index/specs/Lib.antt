-- Read Index: the tree of a sheet. Tree is what it is made of.
-- Valid, Blocks and Check say what the check tests and finds.
-- To be used: Laws.
-- Laws, lemmas and theorems stand in proofs/.
pub mod Tree
pub mod Index
pub mod Valid
pub mod Blocks
pub mod Check
