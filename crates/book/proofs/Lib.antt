mod RankLaws
mod PickLaws
mod LeastLaws
mod CountPicks
mod WriteLaws
mod RunLaws
mod AgreeLaws
pub mod ToldLaws
mod AcceptLaws
