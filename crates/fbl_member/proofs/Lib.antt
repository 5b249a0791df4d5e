pub mod Common
pub mod Logs
pub mod Made
pub mod Once
