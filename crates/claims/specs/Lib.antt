pub mod History
pub mod Claims
pub mod Open
pub mod Joins
