-- To be believed: View. Search says what the search down the index does; Lemmas are proofs.
-- Laws, lemmas and theorems stand in proofs/.
pub mod View
pub mod Search
