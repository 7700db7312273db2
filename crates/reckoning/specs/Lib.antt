pub mod Reckoning
pub mod Given
