pub mod TurnLaws
pub mod PlaceLaws
pub mod PartLaws
pub mod MarkLaws
pub mod OccurLaws
pub mod DeliveryTheorems
