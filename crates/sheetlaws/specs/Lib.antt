pub mod Jobs
pub mod Names
pub mod Reading
