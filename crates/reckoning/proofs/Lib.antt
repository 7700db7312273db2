pub mod ReckonLaws
