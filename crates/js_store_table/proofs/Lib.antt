pub mod HonestBucket
pub mod KeptChanges
pub mod ResumedRows
pub mod WorkedBuckets
pub mod BucketLimits
pub mod KeyCuts
pub mod Histories
pub mod NotedRows
pub mod ShownKeys
pub mod CountedRows
mod WorkedTables
pub mod IdleTables
