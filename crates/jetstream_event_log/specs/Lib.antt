pub mod BucketLimits
pub mod Entry
pub mod KeyPlaces
pub mod SessionRows
pub mod TableReader
