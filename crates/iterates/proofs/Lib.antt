-- `Contexts`: contexts copied. `Meeting`: the passes over a well-formed state. `Iterating`: the whole iteration.
pub mod Contexts
pub mod Meeting
pub mod Iterating
