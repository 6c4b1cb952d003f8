pub mod Lemmas
pub mod Laws
