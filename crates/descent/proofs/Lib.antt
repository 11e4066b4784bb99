-- `Table`: which row decides. `Outcomes`: what a begin leaves.
pub mod Table
pub mod Outcomes
