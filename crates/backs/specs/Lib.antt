-- Reversed lists: what they are made of, and where they are written.
pub mod Backs
