pub mod Signed
pub mod Lemmas
pub mod Laws
