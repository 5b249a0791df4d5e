pub mod Dumps
pub mod DumpLines
pub mod DumpTokens
pub mod EventLines
pub mod Logs
pub mod LogLines
