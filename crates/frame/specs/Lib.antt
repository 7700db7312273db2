pub mod Exact
pub mod Metres
pub mod Given
pub mod Theorems
