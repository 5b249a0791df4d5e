pub mod Common
pub mod Queues
pub mod Starting
