mod Machine
mod Words
mod Turns
pub mod Laws
pub mod Lemmas
