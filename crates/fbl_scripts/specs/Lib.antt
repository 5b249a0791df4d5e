pub mod Scripts
pub mod Reasons
pub mod Texts
