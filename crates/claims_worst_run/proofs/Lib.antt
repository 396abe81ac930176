pub mod Seen
pub mod Handled
pub mod Death
pub mod Deaths
pub mod WorstRun
