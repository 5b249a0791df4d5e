pub mod Common
pub mod Texts
pub mod Steps
pub mod Crossing
pub mod Moments
pub mod Findings
pub mod Undones
