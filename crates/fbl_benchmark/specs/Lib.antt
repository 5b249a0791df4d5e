pub mod Circulation
pub mod Spreading
