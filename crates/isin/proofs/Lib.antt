pub mod Characters
pub mod Digits
pub mod Form
pub mod Values
