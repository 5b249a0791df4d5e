pub mod Common
pub mod Zips
pub mod Cuts
pub mod Sayings
pub mod ForgottenLaws
pub mod UndoneLaws
pub mod OverviewLaws
pub mod InFlightLaws
