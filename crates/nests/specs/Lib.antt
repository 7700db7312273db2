pub mod Nesting
pub mod Children
