-- `Rooms`: each list in its room. `Jobs`: the jobs with no step done. `State`: the parts of the state together.
pub mod Rooms
pub mod Jobs
pub mod State
