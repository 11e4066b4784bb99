-- `Tallies`: what a case came to, and what the cases came to.
pub mod Tallies
