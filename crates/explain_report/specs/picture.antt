pub mod Boxes
pub mod Pictures
pub mod Pieces
pub mod Placing
pub mod Shapes
