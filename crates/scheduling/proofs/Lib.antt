pub mod Bytes
pub mod Cells
pub mod Progress
pub mod Sending
pub mod Filling
pub mod Behind
