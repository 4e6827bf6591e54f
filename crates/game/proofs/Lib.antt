pub mod PairLaws
pub mod ReadingLaws
pub mod MoveLaws
