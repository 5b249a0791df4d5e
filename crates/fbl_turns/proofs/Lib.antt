pub mod Common
pub mod Exclusion
pub mod Keeping
pub mod Reaching
pub mod Recording
pub mod Kept
pub mod Leading
