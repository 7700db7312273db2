pub mod RowLaws
pub mod JoinLaws
pub mod FrontLaws
pub mod WalkLaws
pub mod NameTheorems
