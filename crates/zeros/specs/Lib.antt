-- Zeros, and a test of every place below a number.
pub mod Zeros
