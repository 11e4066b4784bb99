-- The flags of pairs in the words of a slice.
pub mod Marks
