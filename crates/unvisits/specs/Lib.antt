-- The new lists in contexts, and their pairs unvisited.
pub mod Unvisits
