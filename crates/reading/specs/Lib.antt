pub mod Front
pub mod Given
