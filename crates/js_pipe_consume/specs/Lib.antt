pub mod ReadProgress
