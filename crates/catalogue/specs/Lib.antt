pub mod Line
pub mod Ground
pub mod Parts
pub mod Given
