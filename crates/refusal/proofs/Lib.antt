pub mod Numbers
pub mod Passed
