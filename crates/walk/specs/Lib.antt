pub mod Counts
pub mod Walks
pub mod Inner
