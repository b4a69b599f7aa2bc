pub mod HasText
pub mod UnwrittenMember
pub mod KeptAsRead
pub mod NoFloat
mod OverlayTexts
pub mod FirstItem
pub mod PagePoll
pub mod Sleep
pub mod WholeList
