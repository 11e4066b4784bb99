-- Laws of the loop over a list's cases.
pub mod Turns
