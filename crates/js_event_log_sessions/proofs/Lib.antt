pub mod Saves
pub mod NextSession
pub mod Refusals
pub mod Chains
pub mod GaplessSessions
pub mod BookmarkPlaces
pub mod ReplayProgress
pub mod AllSessions
mod WorkedSessions
