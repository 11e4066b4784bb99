-- What an iteration leaves.
pub mod Iterate
