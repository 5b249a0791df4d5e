pub mod Common
pub mod Lists
pub mod Firsts
pub mod Outputs
pub mod Inputs
pub mod Unread
