-- Text is what the program prints. Examples shows P1 to P12 of 01. Printing is what the code says of its buffers, by Text; Lemmas
-- serves its proofs.
-- Laws, lemmas, theorems and the examples stand in proofs/.
pub mod Text
pub mod Printing
