pub mod Steps
pub mod Rounding
pub mod Payments
pub mod Divisor
pub mod Bounds
pub mod Real
pub mod WellDefined
