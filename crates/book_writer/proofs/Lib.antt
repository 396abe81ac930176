pub mod Laid
pub mod Grown
pub mod Answers
pub mod Shown
pub mod Built
pub mod Moves
pub mod Growing
