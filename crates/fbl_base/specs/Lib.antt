pub mod DumpRuns
