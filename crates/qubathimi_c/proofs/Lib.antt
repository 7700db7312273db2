pub mod NeighbourLaws
