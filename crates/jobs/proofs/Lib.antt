pub mod Theorems
pub mod Coming
pub mod Choices
pub mod Laws
pub mod Lemmas
pub mod Judged
pub mod Stops
pub mod Turns
