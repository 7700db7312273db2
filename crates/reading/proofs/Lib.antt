pub mod DigitLaws
pub mod ScanLaws
pub mod HeldLaws
pub mod FrontLaws
