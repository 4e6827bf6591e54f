pub mod Calls
pub mod Stages
pub mod Promise
