pub mod Terms
pub mod Formula
pub mod Faults
pub mod Kept
pub mod Spare
