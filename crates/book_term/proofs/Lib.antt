pub mod Nans
pub mod Ranged
