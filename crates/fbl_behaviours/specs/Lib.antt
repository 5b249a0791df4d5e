pub mod Accounts
pub mod Commands
pub mod Commits
pub mod Elections
pub mod Shards
