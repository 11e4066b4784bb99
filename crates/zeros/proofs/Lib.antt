-- Zeros from a place on, and a test of every place below a number.
pub mod Laws
