pub mod TellLaws
pub mod TellTheorems
