pub mod Dump
pub mod Said
pub mod Written
