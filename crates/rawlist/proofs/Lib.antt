pub mod NumberLaws
pub mod Examples
