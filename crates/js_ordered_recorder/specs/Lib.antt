pub mod Recording
pub mod Lines
pub mod Sends
pub mod LinkInput
pub mod Acts
pub mod Recorder
pub mod Life
