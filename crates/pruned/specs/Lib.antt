-- Steps 2 to 4.
pub mod Pruned
