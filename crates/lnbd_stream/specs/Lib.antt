pub mod Stream
pub mod Grammar
pub mod Laws
