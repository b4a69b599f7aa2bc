pub mod Cuts
pub mod Feeds
pub mod Stable
pub mod Again
pub mod InLine
pub mod HeaderSteps
pub mod HeadersAgain
pub mod Pieces
mod Worked
