pub mod BestLaws
pub mod ListLaws
pub mod RefusalLaws
pub mod OrderLaws
