pub mod Common
pub mod EventLines
pub mod Newlines
pub mod Records
pub mod Values
pub mod DumpValues
pub mod LogValues
pub mod TokenLaws
