pub mod Writer
pub mod Shown
pub mod Built
