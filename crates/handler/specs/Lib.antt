pub mod Handler
pub mod HandlerParts
