-- To be believed: Changing, marks that come and go, and Turned, marks that are turned. Laws and TurnedLaws are proved of them.
-- Laws, lemmas and theorems stand in proofs/.
pub mod Changing
pub mod Turned
