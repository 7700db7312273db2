pub mod JudgeLaws
pub mod SeekLaws
