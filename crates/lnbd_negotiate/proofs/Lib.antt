pub mod Headed
pub mod Hellos
pub mod Judged
