pub mod Chains
pub mod ByChain
pub mod Reasons
pub mod Waits
pub mod Full
pub mod SevenEvents
