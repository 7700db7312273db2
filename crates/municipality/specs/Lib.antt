pub mod Municipality
pub mod Given
