pub mod RelationLaws
pub mod RelationTheorems
