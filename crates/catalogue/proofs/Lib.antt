pub mod LineLaws
pub mod NameLaws
pub mod GroundLaws
pub mod PartLaws
pub mod LineTheorems
