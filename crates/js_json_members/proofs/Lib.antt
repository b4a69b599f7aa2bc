mod Calendar
mod InstantTexts
mod InstantAt
mod Loop
mod ValueCases
mod Percent
mod Floats
pub mod OnLiterals
pub mod Gathered
pub mod ByMembers
