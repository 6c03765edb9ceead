mod PlaceLaws
mod CallLaws
mod DirectLaws
mod OpeningLaws
mod GaugeLaws
pub mod Theorem
pub mod Examples
pub mod GaugeExamples
