pub mod BlockLaws
pub mod FirstLaws
pub mod TailLaws
