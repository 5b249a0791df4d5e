pub mod Common
pub mod Gets
pub mod RulesLaws
pub mod PrecedenceLaws
pub mod LawfulLaws
pub mod Sets
pub mod DumpLaws
