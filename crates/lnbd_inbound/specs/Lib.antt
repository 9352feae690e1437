pub mod Retold
pub mod Inbound
pub mod Standing
