pub mod Thief
pub mod ThiefParts
