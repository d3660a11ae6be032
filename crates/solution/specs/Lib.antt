-- What going from slots back to edges asks, and the laws of its loop and of what it leaves.
pub mod Asked
pub mod PlaceLaws
