pub mod Statuses
pub mod Arounds
pub mod Outcomes
pub mod CommandLines
pub mod Jobs
