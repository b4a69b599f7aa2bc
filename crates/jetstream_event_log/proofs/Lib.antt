pub mod KeptBuckets
pub mod SessionYields
