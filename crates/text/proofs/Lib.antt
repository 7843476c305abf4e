pub mod NameLaws
pub mod NumberLaws
pub mod SplitLaws
mod SpeltLaws
