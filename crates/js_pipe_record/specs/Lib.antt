pub mod FirstLine
pub mod FileRecorder
