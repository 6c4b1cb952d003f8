pub mod Laws
pub mod TurnedLaws
