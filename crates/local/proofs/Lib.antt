pub mod CountLaws
pub mod OrderLaws
pub mod MunicipalityLaws
pub mod RowLaws
pub mod NumberLaws
pub mod LocalTheorems
