pub mod Errors
pub mod ConnectText
pub mod ServerInfo
pub mod Writer
pub mod Connection
pub mod Delivery
