-- What a list can hold.
pub mod Holdable
