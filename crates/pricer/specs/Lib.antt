pub mod Price
pub mod Range
pub mod WellDefined
pub mod Bonds
