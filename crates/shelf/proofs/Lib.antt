pub mod GroupLaws
pub mod NumberLaws
pub mod KindLaws
pub mod WritingLaws
pub mod ReadingLaws
pub mod NumberTheorems
pub mod ListTheorems
pub mod HoldingsTheorems
