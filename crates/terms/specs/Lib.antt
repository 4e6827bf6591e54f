pub mod Refusals
pub mod Bytes
pub mod Lists
pub mod Best
pub mod Order
