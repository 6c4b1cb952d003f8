-- Clash says who clashes with a mark, and Cuts what a search for them may leave out; Laws is for whoever searches. That nobody clashes
-- exactly where the judge accepts is proved in judging.
-- Laws, lemmas and theorems stand in proofs/.
pub mod Clash
pub mod Cuts
