pub mod AckLooks
pub mod Ring
pub mod OtherThread
pub mod AckWait
pub mod Sleep
pub mod Permits
