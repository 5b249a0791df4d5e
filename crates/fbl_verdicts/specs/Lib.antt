pub mod Lines
pub mod Texts
pub mod Forgotten
pub mod UndoneReasons
pub mod Overviews
pub mod RunExplanations
