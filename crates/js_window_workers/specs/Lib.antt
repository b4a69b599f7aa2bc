pub mod WindowCounts
pub mod Worker
