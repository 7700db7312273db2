pub mod Relations
pub mod Given
