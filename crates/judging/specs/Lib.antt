-- To be believed: Judge, what the judge tests. To be used: Theorems, that it accepts exactly the schedules that are ours, and for whoever calls
-- the judge Judgeable, in Search; the rest of Search says what the steps of the code find, over what clashing says of one mark.
-- Laws, lemmas and theorems stand in proofs/.
pub mod Judge
pub mod Search
