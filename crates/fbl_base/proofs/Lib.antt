pub mod HeldOutside
pub mod EventLaws
pub mod DumpRuns
