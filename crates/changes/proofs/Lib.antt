-- Opened is of a sheet that was opened, and Requests of what is asked to be scheduled of its parts.
pub mod Opened
pub mod Requests
