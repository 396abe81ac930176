pub mod Longest
pub mod Entry
