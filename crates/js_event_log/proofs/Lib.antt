pub mod KeyInsertion
pub mod LatestEntries
pub mod Coverage
pub mod LogEntries
pub mod AppliedYields
pub mod HonestLog
pub mod WorkedServers
mod WorkedRelay
pub mod Gives
pub mod Arrivals
pub mod Replies
pub mod Steps
pub mod Plays
pub mod RelayAnswers
pub mod MirrorServer
pub mod MirrorSlots
mod WorkedProjections
pub mod ProjectionOrder
pub mod ProjectionPlaces
pub mod ProjectionRows
pub mod MirrorOrder
pub mod MirrorLookup
pub mod MirrorPass
pub mod MirrorJoin
pub mod MirrorGaps
pub mod MirrorStandings
mod WorkedMirrors
