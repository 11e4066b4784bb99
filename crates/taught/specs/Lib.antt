-- The exact lists of all nodes in one slice.
pub mod Taught
