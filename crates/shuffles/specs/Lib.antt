-- What is kept of a shuffled list.
pub mod Kept
