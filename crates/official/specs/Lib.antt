pub mod List
pub mod Lookup
pub mod Verdict
pub mod Given
pub mod Theorems
