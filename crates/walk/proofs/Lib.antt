mod FrameLaws
mod StepLaws
mod CountLaws
mod WalkLaws
pub mod CompleteLaws
pub mod Examples
