pub mod Signed
pub mod Laws
pub mod FieldLaws
pub mod PairLaws
