pub mod Members
pub mod Laws
pub mod Stored
pub mod Carried
