-- What an offer leaves in the two slices of a list.
pub mod Steps
