pub mod Calls
pub mod Deliveries
