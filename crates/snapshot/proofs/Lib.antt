pub mod Answers
pub mod Parts
pub mod Same
pub mod Changes
