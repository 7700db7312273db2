pub mod Text
pub mod Label
pub mod Given
pub mod Theorems
