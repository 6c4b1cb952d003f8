-- Read Filling first: it says what filling asks and writes. Theorems has what follows.
-- Laws, lemmas and theorems stand in proofs/.
pub mod Filling
