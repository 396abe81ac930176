pub mod LowestIn
