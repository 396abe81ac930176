pub mod Long
pub mod Views
pub mod States
pub mod Open
pub mod Messages
pub mod ClearPool
pub mod Refusals
