pub mod Cases
pub mod Made
pub mod Sent
