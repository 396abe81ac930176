pub mod Validity
pub mod Each
