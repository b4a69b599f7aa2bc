pub mod IncrementalReplay
pub mod Give
pub mod Drive
