-- Columns is the request, and Theorems that both ways undo each other. Steps is what the code's own steps keep.
-- Laws, lemmas and theorems stand in proofs/.
pub mod Columns
pub mod Steps
