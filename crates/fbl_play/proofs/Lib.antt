pub mod Common
pub mod Losses
pub mod Moments
pub mod Histories
mod Recording
