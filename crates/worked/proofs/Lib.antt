pub mod CheckLaws
pub mod ReadLaws
pub mod ImageLaws
pub mod ExampleLaws
pub mod SolveLaws
