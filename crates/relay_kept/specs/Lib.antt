-- `Formed`: what it is that lists, jobs and a relay are well formed. `Halves`: the half of a job that a move is a step of.
-- `Calls`: the words that the laws of the relay's calls are said in.
pub mod Formed
pub mod Halves
pub mod Calls
