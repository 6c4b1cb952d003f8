pub mod Examples
pub mod Lemmas
