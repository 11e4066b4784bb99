-- Floats of bounded size.
pub mod Sizes
