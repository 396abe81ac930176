pub mod Longest
pub mod Opened
pub mod Pages
pub mod Reports
