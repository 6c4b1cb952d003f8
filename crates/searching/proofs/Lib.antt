pub mod Steps
pub mod Cells
mod Zero
