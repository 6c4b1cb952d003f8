-- Read Buffer: what is built where. Steps says what the code's own steps do.
pub mod Buffer
pub mod Steps
pub mod Lemmas
