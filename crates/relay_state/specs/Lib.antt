-- What is tested of a relay's state, part by part.
pub mod State
