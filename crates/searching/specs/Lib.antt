-- Rows says how a row stands in the buffer and Scan what is found for one; Search and Cells say what the steps of a search add.
pub mod Rows
pub mod Scan
pub mod Search
pub mod Cells
