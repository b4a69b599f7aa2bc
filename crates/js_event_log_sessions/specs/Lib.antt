pub mod Bookmark
pub mod Runs
pub mod GaplessSessions
pub mod SessionReplay
pub mod Error
