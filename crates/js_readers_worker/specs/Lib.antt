pub mod Error
pub mod Worker
pub mod WorkerRuns
