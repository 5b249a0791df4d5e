pub mod Headings
pub mod Pictures
pub mod HistoryPictures
pub mod Columns
pub mod Crossings
pub mod Windows
pub mod RunShapes
pub mod RunPictures
