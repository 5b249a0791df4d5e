pub mod Common
pub mod Queues
pub mod Delivering
pub mod Striking
pub mod Reading
pub mod Recovering
