pub mod Ranks
pub mod Picking
pub mod Solving
pub mod Told
pub mod Agreeing
pub mod Accepting
