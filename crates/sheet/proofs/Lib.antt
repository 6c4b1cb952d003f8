pub mod Laws
pub mod Lemmas
