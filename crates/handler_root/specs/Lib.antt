pub mod Root
pub mod RootParts
