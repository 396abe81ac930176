pub mod Worst
pub mod ReadBack
