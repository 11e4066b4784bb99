-- `Live`: the live part of a row in two slices, and a slice filled up.
pub mod Live
