pub mod Delivery
pub mod Given
pub mod Theorems
