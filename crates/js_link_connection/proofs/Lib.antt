pub mod Frames
pub mod Steps
pub mod Frame
pub mod Worked
