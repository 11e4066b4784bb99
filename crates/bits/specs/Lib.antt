-- `Bits`: a bit set and cleared.
pub mod Bits
