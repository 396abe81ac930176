pub mod Text
pub mod Cursor
