pub mod Wheel
pub mod Lemmas
pub mod Laws
