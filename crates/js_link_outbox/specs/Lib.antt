pub mod Numbered
pub mod Inboxes
pub mod Requests
pub mod Numerals
pub mod Wire
pub mod Outbox
pub mod Calls
pub mod NewOutbox
