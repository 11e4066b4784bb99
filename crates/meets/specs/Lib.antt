-- What a pair that meets leaves of a descent's state.
pub mod Meets
