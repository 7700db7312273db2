pub mod Told
pub mod Plain
