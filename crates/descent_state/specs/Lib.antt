-- What is tested of a descent's state, part by part.
pub mod State
