pub mod BoxLemmas
pub mod DrawingLemmas
pub mod PieceLemmas
pub mod PlacingLemmas
pub mod ShapeLemmas
