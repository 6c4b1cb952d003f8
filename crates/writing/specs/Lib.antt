-- Pieces is of bytes in two pieces, and Requests of what is asked of scheduling.
pub mod Pieces
pub mod Requests
