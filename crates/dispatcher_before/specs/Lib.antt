pub mod Before
pub mod Reasons
pub mod Full
pub mod SevenEvents
