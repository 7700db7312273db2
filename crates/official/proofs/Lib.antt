pub mod FindLaws
pub mod ListTheorems
pub mod LookupTheorems
pub mod ListLaws
pub mod LookupLaws
pub mod VerdictLaws
pub mod VerdictTheorems
