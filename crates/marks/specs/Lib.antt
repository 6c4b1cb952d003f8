-- Read Marks first: it is what the other crates say. Good is what is known of marks that passed the questions, and Fields what a mark of given
-- fields is; Laws and FieldLaws prove what follows.
-- Laws, lemmas and theorems stand in proofs/.
pub mod Marks
pub mod Pairs
pub mod Good
pub mod Fields
