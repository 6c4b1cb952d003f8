pub mod TestLaws
pub mod StoreLaws
pub mod CountLaws
pub mod BlockLaws
pub mod SortLaws
