pub mod BatchReads
pub mod BatchCounts
pub mod DefaultLimits
mod PushPolls
mod GivenKinds
mod KeptInboxes
pub mod RisingSequences
pub mod KeptConnections
mod KeptReads
pub mod IdlePolls
