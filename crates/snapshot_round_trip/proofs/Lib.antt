pub mod Starts
pub mod Elements
pub mod Decode
pub mod Encodable
pub mod Run
pub mod Encode
