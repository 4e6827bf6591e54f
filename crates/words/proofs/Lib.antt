pub mod WordLaws
pub mod WidthLaws
pub mod PlainLaws
pub mod NameLaws
pub mod SoughtLaws
pub mod SignalLaws
pub mod StepLaws
pub mod ReadLaws
