-- `Measured`: what the contracts of the distances say, as records. `Finite`: finite lanes.
pub mod Measured
pub mod Finite
pub mod Counters
