pub mod Reserved
pub mod Made
