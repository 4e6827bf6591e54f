pub mod Reading
pub mod Moves
