pub mod Words
pub mod Table
pub mod Grid
pub mod Sheet
pub mod Cover
pub mod Given
pub mod Theorems
