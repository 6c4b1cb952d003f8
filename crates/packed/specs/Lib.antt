-- Packed says what packed decimal is. Laws has what follows: each number from -99,999 to 99,999 has one form.
-- Laws, lemmas and theorems stand in proofs/.
pub mod Packed
