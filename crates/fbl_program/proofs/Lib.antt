pub mod Common
pub mod Apps
pub mod Lines
pub mod Endings
pub mod Several
pub mod Arounds
