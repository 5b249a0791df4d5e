pub mod Common
pub mod Following
pub mod Undoing
pub mod Standing
pub mod Cutting
pub mod Counting
pub mod Sends
pub mod Parts
pub mod Deliveries
pub mod Steps
pub mod Recoveries
pub mod Turning
pub mod Lasts
pub mod Layers
pub mod ShapeLaws
mod Recording
