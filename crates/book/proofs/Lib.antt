pub mod SameBytes
pub mod Faults
pub mod Accepted
pub mod Entries
