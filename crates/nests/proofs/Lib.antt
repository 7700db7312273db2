pub mod HoldLaws
pub mod NestLaws
pub mod OverlapLaws
pub mod PairLaws
pub mod NestingTheorems
pub mod ChildrenLaws
pub mod ChildrenTheorems
