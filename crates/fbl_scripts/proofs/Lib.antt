pub mod Common
pub mod Versions
