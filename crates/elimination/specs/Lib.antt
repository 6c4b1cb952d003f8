-- To be believed: what marks are, the two rules, the process, the bytes of a schedule, the reel, which decides it, and which marks are alike.
-- Cases names the pair values, disks, squares and popups, under the one theorem. To be used: Theorems and Unmoved, for a sheet's marks Sheet and Schedule, for scheduling Settled and RankOrder, and Laws.
-- Laws, lemmas and theorems stand in proofs/.
pub mod Marks
pub mod Rules
pub mod Process
pub mod Records
pub mod Reel
pub mod Lent
pub mod Alike
pub mod Important
pub mod RankOrder
pub mod Settled
pub mod Cases
