pub mod Export
pub mod Requests
pub mod Statuses
pub mod Walks
pub mod Edges
pub mod Spans
pub mod Zeros
pub mod Generated
