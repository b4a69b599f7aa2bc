pub mod Counts
pub mod AwaitedAcks
pub mod Rounds
pub mod StepRuns
pub mod Sleep
pub mod Tried
pub mod NoPermit
