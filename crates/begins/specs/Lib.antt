-- What a begin leaves in a descent's state.
pub mod Begins
