-- Read Parting: what it means to part keys in place in bytes. Steps says what the code's own steps do.
pub mod Parting
pub mod Steps
