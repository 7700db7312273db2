pub mod Rows
pub mod Numbers
pub mod Given
pub mod Theorems
