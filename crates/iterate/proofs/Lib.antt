-- `Table`: which row decides. `Outcomes`: what an iteration leaves.
pub mod Table
pub mod Outcomes
