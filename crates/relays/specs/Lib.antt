-- `Places`: the places of a relay state. `Bits`: floats by their bits.
pub mod Places
pub mod Bits
