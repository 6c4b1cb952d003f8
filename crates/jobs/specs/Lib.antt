-- Jobs is what each call gives, Parts and Demand3 what is claimed of sheets and views by demands 2 and 3, and Theorems their proofs.
-- Changed is what is claimed of marks that come and go, and Coming its proof. Filled is what is claimed of filled marks, Logs of logs and marks that are turned into one another, and Archived of marks by columns.
-- Stops is request 4 of 02: a stop and the wheel value of the same zoom give the same. Choices is of requests 6 and 13: without part 4 as with edition 1, and without part 7 as with disks.
-- Turns is of request 8: the guarantee on turned marks. Judged is of request 10: what the judge accepts is scheduled here. Counted is of request
-- 12: what is claimed of counts and of counting.
-- Steps is what the code's own steps give, and Laws how it answers: for `rollmap`.
-- Laws, lemmas and theorems stand in proofs/.
pub mod Jobs
pub mod Answers
pub mod Parts
pub mod Demand3
pub mod Changed
pub mod Filled
pub mod Logs
pub mod Archived
pub mod Counted
pub mod Stops
pub mod Turns
pub mod Judged
pub mod Steps
pub mod Choices
