-- `Moves`: what a step of a job leaves in the state. `Move`: the entry.
pub mod Moves
pub mod Move
