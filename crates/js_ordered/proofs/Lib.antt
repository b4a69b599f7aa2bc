pub mod RowRuns
pub mod RowCounts
pub mod ReplayRuns
pub mod EventByEvent
pub mod DrivenRows
pub mod DrivenReads
pub mod Nowhere
pub mod TakenTasks
