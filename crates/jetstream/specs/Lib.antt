pub mod AnyError
pub mod Link
pub mod Stream
pub mod Driver
