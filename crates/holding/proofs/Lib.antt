pub mod HoldingLaws
pub mod HoldingTheorems
