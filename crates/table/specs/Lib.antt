pub mod States
pub mod Views
pub mod Messages
pub mod Parts
pub mod Pools
pub mod Needs
