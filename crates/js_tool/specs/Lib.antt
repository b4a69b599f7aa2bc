pub mod CommandTexts
pub mod Status
pub mod Command
pub mod Program
pub mod Progress
pub mod Answer
pub mod LogCommand
