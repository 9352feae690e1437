pub mod Done
pub mod Found
pub mod Inside
pub mod Lends
pub mod Marks
pub mod Places
pub mod Rows
pub mod Table
