pub mod Over
pub mod Digits
pub mod Decimal
pub mod Writes
