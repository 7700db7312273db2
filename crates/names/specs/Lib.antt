pub mod Name
pub mod Theorems
pub mod Given
