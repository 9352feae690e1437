pub mod Owed
pub mod Budget
