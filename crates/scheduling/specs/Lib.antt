-- What `schedule` asks for is Schedulable, in Filling; what it gives is elimination's schedule_of.
-- The rest says what the steps of the code do to its work buffer; no other crate needs it.
pub mod Planning
pub mod Settling
pub mod Sending
pub mod Filling
pub mod Behind
