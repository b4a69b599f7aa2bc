pub mod SentencePart
pub mod OutsideEvents
pub mod Replies
pub mod Arrivals
pub mod RetryWait
pub mod Outcome
pub mod Sentences
pub mod Answer
