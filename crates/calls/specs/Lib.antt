pub mod Outcomes
pub mod Codes
pub mod Rows
pub mod Giving
