pub mod DigitLaws
mod TextLaws
pub mod LineLaws
mod PieceLaws
pub mod Examples
