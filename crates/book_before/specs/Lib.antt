pub mod Formula
pub mod Before
pub mod Kept
pub mod Spare
