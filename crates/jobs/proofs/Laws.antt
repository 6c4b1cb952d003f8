-- The laws by which the code answers: how a job ends, what its buffers then hold, and what is known of the pieces that it writes.
pub mod Given
pub mod Outcomes
pub mod Rooms
pub mod Listed
pub mod Kept
pub mod Filling
pub mod Logs
pub mod Walking
pub mod Scheduling
pub mod Changing
pub mod Viewing
pub mod Judging
pub mod Archiving
pub mod Counting
pub mod Counted
