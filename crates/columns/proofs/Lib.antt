pub mod Theorems
pub mod Lemmas
