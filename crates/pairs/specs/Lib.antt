-- Floats of bounded size.
pub mod Within
